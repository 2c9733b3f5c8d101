-- A text is one code or has one fault.
-- The idea. A text has one guess, so one line begins it (`line_unique`), and one header (`header_unique`). By induction
-- over the lines, two lists of lines with one text are one (`lines_unique`), two bad lines stand at one place
-- (`bad_unique`), and a text of good lines has no bad one (`good_or_bad`). `one_reading` puts them together, by cases of
-- two readings.
-- Read `line_unique` first, then `lines_unique` and `one_reading`.
use Rattle.std.proofs.Common.{◌≡◌, ⊎_elim, inr, ℕ, suc, ◌+◌, ◌<◌, List, [], ◌∷◌, ◌++◌, length, refl, ap, ◌∙◌, sym, subst, arith, append_assoc, length-append, Ok, Err}
use Rattle.std.proofs.lemmas.List.{append_cancel_left}
use Rattle.std.proofs.lemmas.Option.{same_Some, none-some}
use Rattle.base.specs.Lines.{line_end}
use Rattle.code_core.specs.declared.instr.Instr.{Instr}
use Rattle.code_core.specs.declared.fault.CodeFault.{CodeFault}
use Rattle.code_core.specs.declared.fault.CodeFault.TheVariants as F
use Rattle.code_core.specs.Instructions.{CodeSizes, AreSizes, StepCode}
use Rattle.code_core.specs.Verified.{code_fault, IsVerified}
use Rattle.code_text.specs.CodeText.{instr_text, instr_line, code_lines, header_line, MayStand, AllMayStand, IsVersion, IsTextOf, HasNoHeader, HasNoLine, HasBadRest, IsBadLine, ReadsAs}
use Rattle.code_text.specs.Laws.{OneReadingLaw, RoundTripLaw}
use Rattle.code_text.specs.prover.Guess.{guess, guessed_version, guessed_sizes}
use Rattle.code_text.proofs.Guessing.{guess_line, guess_version, guess_header}

line_unique : (version : ℕ) (i j : Instr) (a b : List ℕ) → MayStand version i → MayStand version j → instr_line i ++ a ≡ instr_line j ++ b → (i ≡ j) × (a ≡ b)
line_unique version i j a b may other same =
    let first : i ≡ j = sym (guess_line i a may.1) ∙ ap guess same ∙ guess_line j b other.1 in
    (first, append_cancel_left (instr_line i) a b (same ∙ ap (λ k. instr_line k ++ b) (sym first)))

header_unique : (v w : ℕ) (y z : CodeSizes) (a b : List ℕ) → IsVersion v → IsVersion w → AreSizes y → AreSizes z
    → header_line v y ++ a ≡ header_line w z ++ b → (v ≡ w) × (y ≡ z) × (a ≡ b)
header_unique v w y z a b known too are other same =
    let digit : v ≡ w = sym (guess_version v y a known) ∙ ap guessed_version same ∙ guess_version w z b too in
    let sizes : y ≡ z = sym (guess_header v y a known are) ∙ ap guessed_sizes same ∙ guess_header w z b too other in (
      digit,
      sizes,
      append_cancel_left (header_line v y) a b
          (same ∙ ap (λ u. header_line u z ++ b) (sym digit) ∙ ap (λ x. header_line v x ++ b) (sym sizes)),
    )

no_empty_line : (i : Instr) (more : List ℕ) → instr_line i ++ more ≡ [] → ⊥
no_empty_line i more e =
    let long : length (instr_line i ++ more) ≡ 0 = ap length e in
    absurd (omega (arith, length-append (instr_line i) more, length-append (instr_text i) line_end))

lines_unique : (version : ℕ) (is js : List Instr) → AllMayStand version is → AllMayStand version js → code_lines is ≡ code_lines js → is ≡ js
lines_unique version [] [] a b same = refl
lines_unique version [] (j ∷ js) a b same = absurd (no_empty_line j (code_lines js) (sym same))
lines_unique version (i ∷ is) [] a b same = absurd (no_empty_line i (code_lines is) same)
lines_unique version (i ∷ is) (j ∷ js) a b same =
    let both = line_unique version i j (code_lines is) (code_lines js) a.0 b.0 same in
    λ k. both.0 k ∷ lines_unique version is js a.1 b.1 both.1 k

bad_unique : (version : ℕ) (g h : List Instr) (r s : List ℕ) → AllMayStand version g → AllMayStand version h → HasNoLine version r → HasNoLine version s
    → code_lines g ++ r ≡ code_lines h ++ s → length g ≡ length h
bad_unique version [] [] r s a b bad worse same = refl
bad_unique version [] (j ∷ h) r s a b bad worse same = absurd (bad j (code_lines h ++ s) b.0 (sym (same ∙ append_assoc (instr_line j) (code_lines h) s)))
bad_unique version (i ∷ g) [] r s a b bad worse same = absurd (worse i (code_lines g ++ r) a.0 (sym (append_assoc (instr_line i) (code_lines g) r) ∙ same))
bad_unique version (i ∷ g) (j ∷ h) r s a b bad worse same =
    let both = line_unique version i j (code_lines g ++ r) (code_lines h ++ s) a.0 b.0
    (sym (append_assoc (instr_line i) (code_lines g) r) ∙ same ∙ append_assoc (instr_line j) (code_lines h) s) in
    ap suc (bad_unique version g h r s a.1 b.1 bad worse both.1)

good_or_bad : (version : ℕ) (g is : List Instr) (r : List ℕ) → AllMayStand version g → AllMayStand version is → HasNoLine version r → 0 < length r → code_lines g ++ r ≡ code_lines is → ⊥
good_or_bad version [] [] r a b bad some same = let none : length r ≡ 0 = ap length same in absurd (omega arith)
good_or_bad version [] (j ∷ js) r a b bad some same = bad j (code_lines js) b.0 (sym same)
good_or_bad version (i ∷ g) [] r a b bad some same = no_empty_line i (code_lines g ++ r) (sym (append_assoc (instr_line i) (code_lines g) r) ∙ same)
good_or_bad version (i ∷ g) (j ∷ js) r a b bad some same =
    let both = line_unique version i j (code_lines g ++ r) (code_lines js) a.0 b.0 (sym (append_assoc (instr_line i) (code_lines g) r) ∙ same) in
    good_or_bad version g js r a.1 b.1 bad some both.1

text_unique : (c d : StepCode) (text : List ℕ) → IsTextOf c text → IsTextOf d text → c ≡ d
text_unique c d text a b =
    let both = header_unique a.version b.version c.sizes d.sizes (code_lines c.instructions) (code_lines d.instructions) a.known b.known
    a.sizes b.sizes (a.spelled ∙ sym b.spelled) in
    let lines = subst (λ v. AllMayStand v d.instructions) (sym both.0) b.lines in
    let same = lines_unique a.version c.instructions d.instructions a.lines lines both.2 in
    λ j. record { sizes = both.1 j; instructions = same j }

not_both : (k : ℕ) (c : StepCode) (text : List ℕ) → IsBadLine k text → IsTextOf c text → ⊥
not_both k c text bad is =
    ⊎_elim
    (λ first. first.1 is.version c.sizes (code_lines c.instructions) is.known is.sizes is.spelled)
    (λ later.
    let rest = later.1 in
    let both = header_unique rest.version is.version rest.z c.sizes rest.rest (code_lines c.instructions) rest.known is.known
    rest.sizes is.sizes (rest.spelled ∙ sym is.spelled) in
    let has = rest.bad in
    let lines = subst (λ v. AllMayStand v c.instructions) (sym both.0) is.lines in
    good_or_bad rest.version has.good c.instructions has.rest has.lines lines has.bad has.some (has.spelled ∙ both.2))
    bad

-- two bad lines after headers of one text are the same
rest_same : (k j : ℕ) (text : List ℕ) → HasBadRest k text → HasBadRest j text → k ≡ j
rest_same k j text a b =
    let both = header_unique a.version b.version a.z b.z a.rest b.rest a.known b.known a.sizes b.sizes (a.spelled ∙ sym b.spelled) in
    let x = a.bad in
    let y = b.bad in
    let lines = subst (λ v. AllMayStand v y.good) (sym both.0) y.lines in
    let none = subst (λ v. HasNoLine v y.rest) (sym both.0) y.bad in
    let many : length x.good ≡ length y.good =
    bad_unique a.version x.good y.good x.rest y.rest x.lines lines x.bad none (x.spelled ∙ both.2 ∙ sym y.spelled) in
    x.line ∙ many ∙ sym y.line

no_header_before : (j : ℕ) (text : List ℕ) → HasNoHeader text → HasBadRest j text → ⊥
no_header_before j text none rest = none rest.version rest.z rest.rest rest.known rest.sizes rest.spelled

bad_same : (k j : ℕ) (text : List ℕ) → IsBadLine k text → IsBadLine j text → k ≡ j
bad_same k j text a b =
    ⊎_elim
    (λ first. ⊎_elim
    (λ one. first.0 ∙ sym one.0)
    (λ later. absurd (no_header_before later.0 text first.1 later.1)) b)
    (λ later. ⊎_elim
    (λ one. absurd (no_header_before later.0 text one.1 later.1))
    (λ other. later.2 ∙ ap (λ l. l + 2) (rest_same later.0 other.0 text later.1 other.1) ∙ sym other.2) b) a

good_no_fault : (text : List ℕ) (c : StepCode) (f : CodeFault) → IsTextOf c text → IsVerified c.sizes c.instructions → ReadsAs text (Err f) → ⊥
good_no_fault text c f is verified r =
    ⊎_elim
    (λ bad. not_both bad.0 c text bad.2 is)
    (λ other. none-some f (sym verified ∙ ap (λ d. code_fault d.sizes d.instructions) (text_unique c other.0 text is other.1) ∙ other.2))
    r

same_fault : (text : List ℕ) (f g : CodeFault) → ReadsAs text (Err f) → ReadsAs text (Err g) → f ≡ g
same_fault text f g a b =
    ⊎_elim
    (λ bad. ⊎_elim
    (λ worse. bad.1 ∙ ap F.BadLine (bad_same bad.0 worse.0 text bad.2 worse.2) ∙ sym worse.1)
    (λ other. absurd (not_both bad.0 other.0 text bad.2 other.1)) b)
    (λ one. ⊎_elim
    (λ worse. absurd (not_both worse.0 one.0 text worse.2 one.1))
    (λ other.
    same_Some f g (sym one.2 ∙ ap (λ d. code_fault d.sizes d.instructions) (text_unique one.0 other.0 text one.1 other.1) ∙ other.2)) b)
    a

pub one_reading : OneReadingLaw
one_reading text (Ok c) (Ok d) a b = ap Ok (text_unique c d text a.0 b.0)
one_reading text (Ok c) (Err f) a b = absurd (good_no_fault text c f a.0 a.1 b)
one_reading text (Err f) (Ok c) a b = absurd (good_no_fault text c f b.0 b.1 a)
one_reading text (Err f) (Err g) a b = ap Err (same_fault text f g a b)

pub round_trip : RoundTripLaw
round_trip c sizes lines verified =
    (record { version = 2; known = inr refl; sizes = sizes; lines = lines; spelled = refl }, verified)
