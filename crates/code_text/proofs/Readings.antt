-- Each text is a code or has a fault: `some_reading`.
--
-- The difficulty is that a line is bad only if it is the line of no instruction (`HasNoLine`), and that
-- speaks of all instructions. So the instruction is guessed from the text (`guess`). If the line of any
-- instruction begins the text, that instruction is the guess (`guess_line` in `Guessing.antt`). So it is
-- enough to compare the line of the guess with the text (`begins_or_not`), and to test whether the guess may
-- stand (`decided_in`, `decided_range`). The header is guessed in the same way (`header_or_none`).
-- `lines_or_bad` goes on line by line, by induction on a bound of the length: a line has at least one byte
-- (`shorter`). At the end `verified_or_not` asks whether the code has a fault. Read `line_or_none` first.
use Rattle.std.proofs.Common.{◌≡◌, ◌⊎◌, ⊎_elim, inl, inr, ℕ, zero, suc, ◌+◌, ◌<◌, ◌≤◌, ◌^◌, ◌==◌, if◌then◌else◌, List, [], ◌∷◌, ◌++◌, length, refl, ap, ◌∙◌, sym, subst, arith, append_assoc, drop, get_or, Option, Some, None, Result, Ok, Err}
use Rattle.std.proofs.lemmas.Bool.{cases_Bool, cases_eq, cases_lt}
use Rattle.std.proofs.lemmas.Bool.Decides.{eqb_tells}
use Rattle.code_core.specs.declared.instr.Instr.{Instr}
use Rattle.code_core.specs.declared.instr.Instr.TheVariants as I
use Rattle.code_core.specs.declared.fault.CodeFault.{CodeFault}
use Rattle.code_core.specs.declared.fault.CodeFault.TheVariants as F
use Rattle.code_core.specs.Instructions.{CodeSizes, AreSizes, StepCode}
use Rattle.code_core.specs.Verified.{code_fault}
use Rattle.code_text.specs.CodeText.{instr_line, code_lines, header_line, InRange, IsIn, IsVersion, MayStand, AllMayStand, IsTextOf, HasNoHeader, HasNoLine, HasBadLine, ReadsAs}
use Rattle.code_text.specs.Laws.{SomeReadingLaw}
use Rattle.code_text.specs.prover.Guess.{guess, version_at, guessed_version, guessed_sizes}
use Rattle.code_text.proofs.Guessing.{guess_line, no_header, no_line, no_sizes}
use Rattle.code_text.proofs.Lines.{shorter}

abbrev Decided : Type 0 → Type 0
Decided P = P ⊎ (P → ⊥)

decided_below : (m n : ℕ) → Decided (m < n)
decided_below m n = ⊎_elim inl (λ past. inr (λ below. absurd (omega arith))) (cases_lt m n)

decided_both : {P Q : Type 0} → Decided P → Decided Q → Decided (P × Q)
decided_both (inl p) (inl q) = inl (p, q)
decided_both (inl p) (inr never) = inr (λ both. never both.1)
decided_both (inr never) other = inr (λ both. never both.0)

decided_range : (i : Instr) → Decided (InRange i)
decided_range (I.Push v) = decided_below v (2 ^ 32)
decided_range (I.Load x) = decided_below x (2 ^ 8)
decided_range I.Me = inl tt
decided_range I.Count = inl tt
decided_range (I.Bin op) = inl tt
decided_range (I.Store x) = decided_below x (2 ^ 8)
decided_range (I.Get r x) = decided_both (decided_below r (2 ^ 8)) (decided_below x (2 ^ 8))
decided_range (I.Put r) = decided_below r (2 ^ 8)
decided_range I.LoadWord = inl tt
decided_range I.Next = inl tt
decided_range (I.Exchange l) = decided_below l (2 ^ 16)
decided_range (I.Scan s) = decided_below s (2 ^ 8)
decided_range (I.Copy s t) = decided_both (decided_below s (2 ^ 8)) (decided_below t (2 ^ 8))
decided_range (I.Older s x) = decided_both (decided_below s (2 ^ 8)) (decided_below x (2 ^ 8))
decided_range I.Out = inl tt
decided_range (I.JumpZero l) = decided_below l (2 ^ 16)
decided_range (I.Jump l) = decided_below l (2 ^ 16)
decided_range I.Halt = inl tt
decided_range I.Clear = inl tt
decided_range (I.Held s x) = decided_both (decided_below s (2 ^ 8)) (decided_below x (2 ^ 8))

decided_in : (version : ℕ) (i : Instr) → Decided (IsIn version i)
decided_in version I.Clear = cases_eq version 2
decided_in version (I.Held s x) = cases_eq version 2
decided_in version _ = inl tt

decided_sizes : (z : CodeSizes) → Decided (AreSizes z)
decided_sizes z =
    ⊎_elim
    (λ few. inl (record {
      at_least_one = omega (arith, few.0);
      at_most_six = omega (arith, few.1.0);
      variables = omega (arith, few.1.1.0);
      scans = omega (arith, few.1.1.1.0);
      rows = omega (arith, few.1.1.1.1);
    }))
    (λ never. inr (λ are. never (
      omega (arith, are.at_least_one),
      (omega (arith, are.at_most_six), (omega (arith, are.variables), (omega (arith, are.scans), omega (arith, are.rows)))),
    )))
    (decided_both (decided_below 0 z.processes) (decided_both (decided_below z.processes 7) (decided_both (decided_below z.variables 65)
    (decided_both (decided_below z.scans 17) (decided_below z.rows 9)))))

-- what follows `front` in a text that begins with it
abbrev Begins : List ℕ → List ℕ → Type 0
Begins front text = (more : List ℕ) × (front ++ more ≡ text)

begins_or_not : (front text : List ℕ) → Begins front text ⊎ ((more : List ℕ) → front ++ more ≡ text → ⊥)
begins_or_not [] text = inl (text, refl)
begins_or_not (b ∷ bs) [] = inr (λ more e. let long : suc (length (bs ++ more)) ≡ 0 = ap length e in absurd (omega arith))
begins_or_not (b ∷ bs) (c ∷ cs) =
    ⊎_elim
    (λ same. ⊎_elim
    (λ begins. inl (begins.0, λ j. same.1 j ∷ begins.1 j))
    (λ not. inr (λ more e. let tail : bs ++ more ≡ cs = ap (drop 1) e in not more tail))
    (begins_or_not bs cs))
    (λ other. inr (λ more e. let head : b ≡ c = ap (λ l. get_or l 0 0) e in other.1 head))
    (eqb_tells b c)

-- the text begins with a line of an instruction, or with none
line_or_none : (version : ℕ) (text : List ℕ) → ((i : Instr) × MayStand version i × Begins (instr_line i) text) ⊎ HasNoLine version text
line_or_none version text =
    ⊎_elim
    (λ may. ⊎_elim
    (λ begins. inl (guess text, may, begins))
    (λ not. inr (no_line version text (λ inside. not)))
    (begins_or_not (instr_line (guess text)) text))
    (λ never. inr (λ i more may is. never (subst (MayStand version) (sym (ap guess (sym is) ∙ guess_line i more may.1)) may)))
    (decided_both (decided_in version (guess text)) (decided_range (guess text)))

abbrev Lines : ℕ → List ℕ → Type 0
Lines version text = (is : List Instr) × AllMayStand version is × (code_lines is ≡ text)

abbrev Bad : ℕ → List ℕ → Type 0
Bad version text = (k : ℕ) × HasBadLine version k text

-- a good line before others
bad_after : (version : ℕ) (i : Instr) (more text : List ℕ) → MayStand version i → instr_line i ++ more ≡ text → Bad version more → Bad version text
bad_after version i more text may is bad =
    let has = bad.1 in (
      suc bad.0,
      record {
        good = i ∷ has.good;
        lines = (may, has.lines);
        rest = has.rest;
        some = has.some;
        spelled = append_assoc (instr_line i) (code_lines has.good) has.rest ∙ ap (λ x. instr_line i ++ x) has.spelled ∙ is;
        bad = has.bad;
        line = ap suc has.line;
      },
    )

lines_or_bad : (version fuel : ℕ) (text : List ℕ) → length text ≤ fuel → Lines version text ⊎ Bad version text
lines_or_bad version fuel [] few = inl ([], tt, refl)
lines_or_bad version zero (b ∷ bs) few = absurd (omega arith)
lines_or_bad version (suc fuel) (b ∷ bs) few =
    ⊎_elim
    (λ line.
    let i = line.0 in
    let more = line.2.0 in
    let less : length more < length (b ∷ bs) = shorter i more (b ∷ bs) line.2.1 in
    ⊎_elim
    (λ lines. inl (i ∷ lines.0, (line.1, lines.1), ap (λ x. instr_line i ++ x) lines.2 ∙ line.2.1))
    (λ bad. inr (bad_after version i more (b ∷ bs) line.1 line.2.1 bad))
    (lines_or_bad version fuel more (omega arith)))
    (λ none. inr (
      0,
      record {
        good = [];
        lines = tt;
        rest = b ∷ bs;
        some = omega arith;
        spelled = refl;
        bad = none;
        line = refl;
      },
    ))
    (line_or_none version (b ∷ bs))

known_version : (text : List ℕ) → IsVersion (guessed_version text)
known_version text = known (drop 9 text)
  where
    known : (bs : List ℕ) → IsVersion (version_at bs)
    known [] = inr refl
    known (b ∷ bs) =
        ⊎_elim
        (λ one. inl (ap (λ c. if c then 1 else 2) one))
        (λ other. inr (ap (λ c. if c then 1 else 2) other))
        (cases_Bool (b == 49))

header_or_none : (text : List ℕ) → ((z : CodeSizes) × AreSizes z × Begins (header_line (guessed_version text) z) text) ⊎ HasNoHeader text
header_or_none text =
    ⊎_elim
    (λ are. ⊎_elim
    (λ begins. inl (guessed_sizes text, are, begins))
    (λ not. inr (no_header text not))
    (begins_or_not (header_line (guessed_version text) (guessed_sizes text)) text))
    (λ none. inr (no_sizes text none))
    (decided_sizes (guessed_sizes text))

abbrev Read : List ℕ → Type 0
Read text = (r : Result StepCode CodeFault) × ReadsAs text r

verified_or_not : (c : StepCode) (text : List ℕ) → IsTextOf c text → Read text
verified_or_not c text is_text = by_fault (code_fault c.sizes c.instructions) refl
  where
    by_fault : (o : Option CodeFault) → code_fault c.sizes c.instructions ≡ o → Read text
    by_fault None none = (Ok c, (is_text, none))
    by_fault (Some fault) is = (Err fault, inr (c, is_text, is))

pub some_reading : SomeReadingLaw
some_reading text =
    ⊎_elim
    (λ header.
    let z = header.0 in
    let version = guessed_version text in
    let rest = header.2.0 in
    ⊎_elim
    (λ lines. verified_or_not (record { sizes = z; instructions = lines.0 }) text (record {
      version = version;
      known = known_version text;
      sizes = header.1;
      lines = lines.1;
      spelled = ap (λ x. header_line version z ++ x) lines.2 ∙ header.2.1;
    }))
    (λ bad. (
      Err (F.BadLine (bad.0 + 2)),
      inl (
        bad.0 + 2,
        refl,
        inr (
          bad.0,
          record {
            version = version;
            known = known_version text;
            z = z;
            sizes = header.1;
            rest = rest;
            spelled = header.2.1;
            bad = bad.1;
          },
          refl,
        ),
      ),
    ))
    (lines_or_bad version (length rest) rest (omega arith)))
    (λ none. (Err (F.BadLine 1), inl (1, refl, inl (refl, none))))
    (header_or_none text)
