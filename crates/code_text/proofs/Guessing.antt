-- The instruction whose line begins a text is guessed, and so is the header.
-- The idea. `guess` answers an instruction for every text. Where the line of an instruction begins the text, it is that one
-- (`guess_line`, by cases of the instruction). So if the line of the guess does not begin the text, no line does
-- (`no_line`). The version and the sizes of a header are guessed in the same way (`guess_version`, `guess_header`,
-- `no_header`).
-- Read `guess_line` first, then `no_line`.
use Rattle.std.proofs.Common.{◌≡◌, ⊎_elim, ℕ, ◌+◌, ◌==◌, if◌then◌else◌, ◌%◌, ◌^◌, ◌<◌, List, ◌∷◌, ◌++◌, refl, ap, ◌∙◌, sym, subst, arith, codes, drop, append_assoc}
use Rattle.std.specs.Fmt.{decimal}
use Rattle.std.proofs.lemmas.Fmt.{decimal_digit}
use Rattle.base.specs.Lines.{line_end}
use Rattle.base.specs.declared.operator.Op.{Op}
use Rattle.base.specs.declared.operator.Op.TheVariants as O
use Rattle.code_core.specs.declared.instr.Instr.{Instr}
use Rattle.code_core.specs.declared.instr.Instr.TheVariants as I
use Rattle.code_core.specs.Instructions.{CodeSizes, AreSizes}
use Rattle.code_text.specs.CodeText.{instr_line, sizes_text, header_line, InRange, IsIn, IsVersion, HasNoLine, HasNoHeader}
use Rattle.code_text.specs.prover.Guess.{leading, second, guess, guessed_version, guessed_sizes}
use Rattle.code_text.proofs.Leading.{last_number, number_then}

slot_same : (x : ℕ) → x < 2 ^ 8 → x % 256 ≡ x
slot_same x small = omega arith

place_same : (x : ℕ) → x < 2 ^ 16 → x % 65536 ≡ x
place_same x small = omega arith

slot_read : (x : ℕ) (more : List ℕ) → x < 2 ^ 8 → (leading 0 ((decimal x ++ line_end) ++ more)).0 % 256 ≡ x
slot_read x more small = ap (λ a. a.0 % 256) (last_number x more (omega arith)) ∙ slot_same x small

place_read : (x : ℕ) (more : List ℕ) → x < 2 ^ 16 → (leading 0 ((decimal x ++ line_end) ++ more)).0 % 65536 ≡ x
place_read x more small = ap (λ a. a.0 % 65536) (last_number x more (omega arith)) ∙ place_same x small

regrouped : (a b c d e : List ℕ) → (((a ++ b) ++ c) ++ d) ++ e ≡ a ++ (b ++ ((c ++ d) ++ e))
regrouped a b c d e = simp append_assoc

-- two numbers with a space between them
abbrev pair_text : ℕ → ℕ → List ℕ → List ℕ
pair_text x y more = (((decimal x ++ codes " ") ++ decimal y) ++ line_end) ++ more

pair_read : (x y : ℕ) (more : List ℕ) → x < 2 ^ 8 → leading 0 (pair_text x y more) ≡ (x, 32 ∷ ((decimal y ++ line_end) ++ more))
pair_read x y more small =
    ap (leading 0) (regrouped (decimal x) (codes " ") (decimal y) line_end more)
    ∙ number_then x ((decimal y ++ line_end) ++ more) (omega arith)

first_read : (x y : ℕ) (more : List ℕ) → x < 2 ^ 8 → (leading 0 (pair_text x y more)).0 % 256 ≡ x
first_read x y more small = ap (λ a. a.0 % 256) (pair_read x y more small) ∙ slot_same x small

second_read : (x y : ℕ) (more : List ℕ) → x < 2 ^ 8 → y < 2 ^ 8 → (second (pair_text x y more)).0 % 256 ≡ y
second_read x y more small other = ap (λ a. (leading 0 (drop 1 a.1)).0 % 256) (pair_read x y more small) ∙ slot_read y more other

operator_line : (op : Op) (more : List ℕ) → guess (instr_line (I.Bin op) ++ more) ≡ I.Bin op
operator_line O.Add more = refl
operator_line O.Sub more = refl
operator_line O.Mul more = refl
operator_line O.Div more = refl
operator_line O.Rem more = refl
operator_line O.Less more = refl
operator_line O.AtMost more = refl
operator_line O.Equal more = refl
operator_line O.Differs more = refl

pub guess_line : (i : Instr) (more : List ℕ) → InRange i → guess (instr_line i ++ more) ≡ i
guess_line (I.Push v) more small = ap (λ a. I.Push a.0) (last_number v more small)
guess_line (I.Load x) more small = ap I.Load (slot_read x more small)
guess_line I.Me more small = refl
guess_line I.Count more small = refl
guess_line (I.Bin op) more small = operator_line op more
guess_line (I.Store x) more small = ap I.Store (slot_read x more small)
guess_line (I.Get r x) more small = λ j. I.Get (first_read r x more small.0 j) (second_read r x more small.0 small.1 j)
guess_line (I.Put r) more small = ap I.Put (slot_read r more small)
guess_line I.LoadWord more small = refl
guess_line I.Next more small = refl
guess_line (I.Exchange l) more small = ap I.Exchange (place_read l more small)
guess_line (I.Scan s) more small = ap I.Scan (slot_read s more small)
guess_line (I.Copy s t) more small = λ j. I.Copy (first_read s t more small.0 j) (second_read s t more small.0 small.1 j)
guess_line (I.Older s x) more small = λ j. I.Older (first_read s x more small.0 j) (second_read s x more small.0 small.1 j)
guess_line I.Out more small = refl
guess_line (I.JumpZero l) more small = ap I.JumpZero (place_read l more small)
guess_line (I.Jump l) more small = ap I.Jump (place_read l more small)
guess_line I.Halt more small = refl
guess_line I.Clear more small = refl
guess_line (I.Held s x) more small = λ j. I.Held (first_read s x more small.0 j) (second_read s x more small.0 small.1 j)

-- where the version lacks what was guessed, or its line does not begin the text, no line does
pub no_line : (version : ℕ) (text : List ℕ)
    → (IsIn version (guess text) → (more : List ℕ) → instr_line (guess text) ++ more ≡ text → ⊥) → HasNoLine version text
no_line version text not_this i more may is =
    let guessed : guess text ≡ i = ap guess (sym is) ∙ guess_line i more may.1 in
    not_this (subst (IsIn version) (sym guessed) may.0) more (ap (λ j. instr_line j ++ more) guessed ∙ is)

regrouped_header : (a b c d e f g h k : List ℕ)
    → (((((((a ++ b) ++ c) ++ d) ++ e) ++ f) ++ g) ++ h) ++ k ≡ a ++ (b ++ (c ++ (d ++ (e ++ (f ++ ((g ++ h) ++ k))))))
regrouped_header a b c d e f g h k = simp append_assoc

-- the header with these digits of its version
abbrev header_with : List ℕ → CodeSizes → List ℕ
header_with digits z =
    codes "tickcode " ++ digits ++ codes " " ++ (sizes_text z ++ line_end)

pub guess_version : (version : ℕ) (z : CodeSizes) (more : List ℕ) → IsVersion version
    → guessed_version (header_line version z ++ more) ≡ version
guess_version version z more =
    ⊎_elim
    (λ one. ap (λ v. guessed_version (header_line v z ++ more)) one ∙ guessed 1 (omega arith) ∙ sym one)
    (λ two. ap (λ v. guessed_version (header_line v z ++ more)) two ∙ guessed 2 (omega arith) ∙ sym two)
  where
    guessed : (v : ℕ) → v < 10 → guessed_version (header_line v z ++ more) ≡ (if 48 + v == 49 then 1 else 2)
    guessed v small = ap (λ digit. guessed_version (header_with digit z ++ more)) (decimal_digit v small)

after_version : (version : ℕ) (z : CodeSizes) (more : List ℕ) → IsVersion version
    → drop 11 (header_line version z ++ more) ≡ (sizes_text z ++ line_end) ++ more
after_version version z more =
    ⊎_elim
    (λ one. ap (λ v. drop 11 (header_line v z ++ more)) one ∙ dropped 1 (omega arith))
    (λ two. ap (λ v. drop 11 (header_line v z ++ more)) two ∙ dropped 2 (omega arith))
  where
    dropped : (v : ℕ) → v < 10 → drop 11 (header_line v z ++ more) ≡ (sizes_text z ++ line_end) ++ more
    dropped v small = ap (λ digit. drop 11 (header_with digit z ++ more)) (decimal_digit v small)

pub guess_header : (version : ℕ) (z : CodeSizes) (more : List ℕ) → IsVersion version → AreSizes z
    → guessed_sizes (header_line version z ++ more) ≡ z
guess_header version z more known are =
    let text = header_line version z ++ more in
    let last = (decimal z.rows ++ line_end) ++ more in
    let third = decimal z.scans ++ 32 ∷ last in
    let other = decimal z.variables ++ 32 ∷ third in
    let first : leading 0 (drop 11 text) ≡ (z.processes, 32 ∷ other) =
    ap (leading 0) (after_version version z more known ∙ regrouped_header (decimal z.processes) (codes " ") (decimal z.variables) (codes " ") (decimal z.scans) (codes " ") (decimal z.rows) line_end more)
    ∙ number_then z.processes other (omega (arith, are.at_most_six)) in
    let two : leading 0 (drop 1 (leading 0 (drop 11 text)).1) ≡ (z.variables, 32 ∷ third) =
    ap (λ a. leading 0 (drop 1 a.1)) first ∙ number_then z.variables third (omega (arith, are.variables)) in
    let three : leading 0 (drop 1 (leading 0 (drop 1 (leading 0 (drop 11 text)).1)).1) ≡ (z.scans, 32 ∷ last) =
    ap (λ a. leading 0 (drop 1 a.1)) two ∙ number_then z.scans last (omega (arith, are.scans)) in
    let four : leading 0 (drop 1 (leading 0 (drop 1 (leading 0 (drop 1 (leading 0 (drop 11 text)).1)).1)).1) ≡ (z.rows, 10 ∷ more) =
    ap (λ a. leading 0 (drop 1 a.1)) three ∙ last_number z.rows more (omega (arith, are.rows)) in
    λ j. record {
      processes = (ap (λ a. a.0 % 256) first ∙ slot_same z.processes (omega (arith, are.at_most_six))) j;
      variables = (ap (λ a. a.0 % 256) two ∙ slot_same z.variables (omega (arith, are.variables))) j;
      scans = (ap (λ a. a.0 % 256) three ∙ slot_same z.scans (omega (arith, are.scans))) j;
      rows = (ap (λ a. a.0 % 256) four ∙ slot_same z.rows (omega (arith, are.rows))) j;
    }

-- where the guessed sizes are none, or their line does not begin the text, no line of sizes does
pub no_sizes : (text : List ℕ) → (AreSizes (guessed_sizes text) → ⊥) → HasNoHeader text
no_sizes text none version z more known are is =
    none (subst AreSizes (sym (ap guessed_sizes (sym is) ∙ guess_header version z more known are)) are)

pub no_header : (text : List ℕ) → ((more : List ℕ) → header_line (guessed_version text) (guessed_sizes text) ++ more ≡ text → ⊥)
    → HasNoHeader text
no_header text not_this version z more known are is =
    let digit : guessed_version text ≡ version = ap guessed_version (sym is) ∙ guess_version version z more known in
    let sizes : guessed_sizes text ≡ z = ap guessed_sizes (sym is) ∙ guess_header version z more known are in
    not_this more (ap (λ v. header_line v (guessed_sizes text) ++ more) digit ∙ ap (λ y. header_line version y ++ more) sizes ∙ is)
