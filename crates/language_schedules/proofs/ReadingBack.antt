-- A schedule that is written reads back as itself.
--
-- The idea. Writing makes runs of steps, texts of runs, and puts a space between each two (`schedule_text`).
-- Reading splits the text at blanks, reads each piece as an item, and puts its steps behind those so far
-- (`schedule_of`). The page undoes one layer after the other, from the inside:
--
--   - The digits of a number spell it (`decimal_spells` of base), and none of them is a blank or a star.
--   - So the text of a run is read as that run (`item_of-text`): as it stands where the run has one step, and else
--     cut at the first star, which is the one that was written, since the digits before it have none.
--   - So the joined texts split into the texts again (`split_texts`), since no text has a blank in it.
--   - So the pieces give the steps of the runs, one run after the other (`with_runs`).
--   - And the runs of a list of steps, one after the other, are that list (`expanded-runs`), though they are found
--     from its end: a step is put before runs that expand to the rest (`expanded-onto`).
--
-- The inductions are on the list of runs (`split_texts`, `with_runs`) and on the list of steps (`expanded-runs`,
-- `all_runs`). They carry that each run has a step and a process that there is (`IsRun`).
--
-- The limits come in at two places. The digits of a number are known to spell it below 2 ^ 64, and the reader
-- refuses more than 10,000,000 steps. In a schedule within that limit each run is within it, so its numbers are
-- small (`all_small`); and at each item the steps so far with those of the item are no more than the whole, so the
-- reader's own test is passed.
use Rattle.std.proofs.Common.{◌≡◌, ◌∙◌, ◌+◌, ◌^◌, ◌<◌, ◌≤◌, ◌==◌, ◌∷◌, ◌++◌, ℕ, List, [], Bool, true, false, Option, Some, None, Result, Ok, ap, append_assoc, arith, codes, cond, drop, length, map, refl, replicate, subst, sym}
use Rattle.std.specs.Char.{is_ascii_digit}
use Rattle.std.specs.Fmt.{decimal}
use Rattle.std.specs.List.{All, AllByRecursion, position, position_or_len, slice_split}
use Rattle.std.proofs.lemmas.Bool.{eqb-true, le-ltb, lt-leb, lt-ltb}
use Rattle.std.proofs.Math.ListN.{get_or-append}
use Rattle.std.proofs.Math.Seq.{drop-append-add, get_or-append_seam, take-append_seam}
use Rattle.std.proofs.lemmas.List.Sums.{position_or_len_is}
use Rattle.std.proofs.lemmas.Bool.Decides.{nat_tests}
use Rattle.std.proofs.lemmas.List.{append-nil, length-append, length-replicate, replicate-append-replicate}
use Rattle.std.proofs.lemmas.List.Elements.{All-append, All-head, All-push, All-tail, All-weaker}
use Rattle.std.proofs.lemmas.List.Splits.{slice_split_at, slice_split_none}
use Rattle.base.specs.Lines.{spaced}
use Rattle.base.specs.Number.{number_of}
use Rattle.base.proofs.Offered.{Spells, decimal_spells}
use Rattle.base.specs.Blanks.{is_blank}
use Rattle.language_schedules.specs.Schedule.{is_star, item_cut, item_of, item_of_numbers, schedule_of, with_item, with_piece, with_pieces}
use Rattle.language_schedules.specs.Written.{item_text, joined, run_onto, runs_of, schedule_text}
use Rattle.language_schedules.specs.declared.schedule.Item.{Item}
use Rattle.language_schedules.specs.declared.schedule.ScheduleFault.{ScheduleFault}
use Rattle.language_schedules.proofs.WritingLemmas.{run}

-- numbers

abbrev IsDigit : ℕ → Type 0
IsDigit d = is_ascii_digit d ≡ true

abbrev NoBlank : ℕ → Type 0
NoBlank d = is_blank d ≡ false

abbrev NoStar : ℕ → Type 0
NoStar d = is_star d ≡ false

digit_no_blank : (d : ℕ) → IsDigit d → NoBlank d
digit_no_blank d digit = grind (arith, nat_tests)

digit_no_star : (d : ℕ) → IsDigit d → NoStar d
digit_no_star d digit = grind (arith, nat_tests)

-- one item

position_none : (p : ℕ → Bool) (xs : List ℕ) → All (λ x. p x ≡ false) xs → position p xs ≡ None
position_none p xs none =
    let past : position_or_len p xs ≡ length xs =
    position_or_len_is p xs (length xs) 0 (omega arith) (λ k below. none k 0 below) (λ below. absurd (omega arith)) in
    rw (past, le-ltb (length xs) (length xs) (omega arith)) refl

position_at : (p : ℕ → Bool) (xs : List ℕ) (y : ℕ) (ys : List ℕ) → All (λ x. p x ≡ false) xs → p y ≡ true
    → position p (xs ++ y ∷ ys) ≡ Some (length xs)
position_at p xs y ys none passes =
    let there : position_or_len p (xs ++ y ∷ ys) ≡ length xs =
    position_or_len_is p (xs ++ y ∷ ys) (length xs) 0
    (omega (arith, length-append xs (y ∷ ys)))
    (λ k below. ap p (get_or-append xs (y ∷ ys) 0 k below) ∙ none k 0 below)
    (λ below. ap p (get_or-append_seam xs y ys 0) ∙ passes) in
    rw (there, lt-ltb (length xs) (length (xs ++ y ∷ ys)) (omega (arith, length-append xs (y ∷ ys)))) refl

-- a run whose numbers are small
record Small (item : Item) : Type 0 where
  process : item.process < 2 ^ 64
  steps : item.steps < 2 ^ 64
  some : 0 < item.steps

item_of-text : (item : Item) → Small item → item_of (item_text item) ≡ Some item
item_of-text item small = by_test (item.steps == 1) refl
  where
    spells : Spells item.process (decimal item.process)
    spells = decimal_spells item.process small.process

    no_star : All NoStar (decimal item.process)
    no_star = All-weaker IsDigit NoStar digit_no_star (decimal item.process) spells.digits

    alone : 1 ≡ item.steps → item_of (decimal item.process) ≡ Some item
    alone one =
        ap (λ (star : Option ℕ). item_cut star (decimal item.process))
        (position_none is_star (decimal item.process) no_star)
        ∙ ap (λ (number : Option ℕ). item_of_numbers number (Some 1)) spells.value
        ∙ ap (λ (steps : ℕ). Some (run item.process steps)) one

    starred : item_of (decimal item.process ++ codes "*" ++ decimal item.steps) ≡ Some item
    starred =
        let text : List ℕ = decimal item.process ++ 42 ∷ decimal item.steps in
        ap item_of (append_assoc (decimal item.process) (codes "*") (decimal item.steps))
        ∙ ap (λ (star : Option ℕ). item_cut star text)
        (position_at is_star (decimal item.process) 42 (decimal item.steps) no_star refl)
        ∙ ap (λ (front : List ℕ). item_of_numbers (number_of front)
        (number_of (drop (length (decimal item.process) + 1) text)))
        (take-append_seam (decimal item.process) (42 ∷ decimal item.steps))
        ∙ ap (λ (back : List ℕ). item_of_numbers (number_of (decimal item.process)) (number_of back))
        (drop-append-add (decimal item.process) (42 ∷ decimal item.steps) 1)
        ∙ ap (λ (number : Option ℕ). item_of_numbers number (number_of (decimal item.steps))) spells.value
        ∙ ap (item_of_numbers (Some item.process)) (decimal_spells item.steps small.steps).value
        ∙ rw (lt-ltb 0 item.steps small.some) refl

    by_test : (test : Bool) → (item.steps == 1) ≡ test
        → item_of (cond test (decimal item.process) (decimal item.process ++ codes "*" ++ decimal item.steps))
        ≡ Some item
    by_test true is = alone (sym (eqb-true item.steps 1 is))
    by_test false is = starred

item_text-no_blank : (item : Item) → Small item → All NoBlank (item_text item)
item_text-no_blank item small = by_test (item.steps == 1)
  where
    plain : (n : ℕ) → n < 2 ^ 64 → All NoBlank (decimal n)
    plain n below = All-weaker IsDigit NoBlank digit_no_blank (decimal n) (decimal_spells n below).digits

    by_test : (test : Bool) → All NoBlank
        (cond test (decimal item.process) (decimal item.process ++ codes "*" ++ decimal item.steps))
    by_test true = plain item.process small.process
    by_test false =
        All-append NoBlank (decimal item.process ++ codes "*") (decimal item.steps)
        (All-push NoBlank (decimal item.process) 42 (plain item.process small.process) refl)
        (plain item.steps small.steps)

item_text-some : (item : Item) → Small item → 0 < length (item_text item)
item_text-some item small = by_test (item.steps == 1)
  where
    some : 0 < length (decimal item.process)
    some = (decimal_spells item.process small.process).some

    by_test : (test : Bool) → 0 < length
        (cond test (decimal item.process) (decimal item.process ++ codes "*" ++ decimal item.steps))
    by_test true = some
    by_test false =
        omega (
          arith,
          some,
          length-append (decimal item.process ++ codes "*") (decimal item.steps),
          length-append (decimal item.process) (codes "*"),
        )

-- runs

-- the steps of these runs
abbrev expanded : List Item → List ℕ
expanded [] = []
expanded (item ∷ runs) = replicate item.steps item.process ++ expanded runs

split_texts : (item : Item) (runs : List Item) → Small item → AllByRecursion Small runs
    → slice_split is_blank (item_text item ++ spaced (map item_text runs)) ≡ item_text item ∷ map item_text runs
split_texts item [] small all =
    ap (slice_split is_blank) (append-nil (item_text item)) ∙ slice_split_none is_blank (item_text item)
    (item_text-no_blank item small)
split_texts item (next ∷ runs) small all =
    slice_split_at is_blank (item_text item) 32 (item_text next ++ spaced (map item_text runs))
    (item_text-no_blank item small) refl
    ∙ ap (λ (texts : List (List ℕ)). item_text item ∷ texts) (split_texts next runs all.0 all.1)

with_piece-some : (n place : ℕ) (steps text : List ℕ) → 0 < length text → with_piece n place steps text ≡ with_item
    (λ p. p) n place steps (item_of text)
with_piece-some n place steps [] some = absurd (omega arith)
with_piece-some n place steps (byte ∷ bytes) some = refl

with_run : (n place : ℕ) (steps : List ℕ) (item : Item) → Small item → item.process < n
    → length steps + item.steps ≤ 10000000
    → with_piece n place steps (item_text item) ≡ Ok (steps ++ replicate item.steps item.process)
with_run n place steps item small below few =
    with_piece-some n place steps (item_text item) (item_text-some item small)
    ∙ ap (with_item (λ p. p) n place steps) (item_of-text item small)
    ∙ rw (lt-leb n item.process below, le-ltb 10000000 (length steps + item.steps) few) refl

-- a run of a schedule of `n` processes
record IsRun (n : ℕ) (item : Item) : Type 0 where
  below : item.process < n
  some : 0 < item.steps

with_runs : (n place : ℕ) (steps : List ℕ) (runs : List Item) → n ≤ 2 ^ 64 → AllByRecursion (IsRun n) runs
    → length steps + length (expanded runs) ≤ 10000000
    → with_pieces (with_piece n) place (Ok steps) (map item_text runs) ≡ Ok (steps ++ expanded runs)
with_runs n place steps [] few_processes all few = ap Ok (sym (append-nil steps))
with_runs n place steps (item ∷ runs) few_processes all few =
    let its : List ℕ = replicate item.steps item.process in
    let in_all : length (its ++ expanded runs) ≡ item.steps + length (expanded runs) =
    length-append its (expanded runs) ∙ ap (λ (k : ℕ). k + length (expanded runs))
    (length-replicate item.steps item.process) in
    let so_far : length (steps ++ its) ≡ length steps + item.steps =
    length-append steps its ∙ ap (λ (k : ℕ). length steps + k) (length-replicate item.steps item.process) in
    let is_run : IsRun n item = all.0 in
    let below : item.process < n = is_run.below in
    let some : 0 < item.steps = is_run.some in
    let short : item.steps ≤ 10000000 = omega arith in
    let small : Small item = record { process = omega arith; steps = omega arith; some = some } in
    ap (λ (so : Result (List ℕ) ScheduleFault). with_pieces (with_piece n) (place + length (item_text item) + 1) so
    (map item_text runs))
    (with_run n place steps item small below (omega arith))
    ∙ with_runs n (place + length (item_text item) + 1) (steps ++ its) runs few_processes all.1 (omega arith)
    ∙ ap Ok (append_assoc steps its (expanded runs))

all_small : (n : ℕ) (runs : List Item) → n ≤ 2 ^ 64 → AllByRecursion (IsRun n) runs → length (expanded runs) ≤ 10000000
    → AllByRecursion Small runs
all_small n [] few_processes all few = tt
all_small n (item ∷ runs) few_processes all few =
    let its : List ℕ = replicate item.steps item.process in
    let in_all : length (its ++ expanded runs) ≡ item.steps + length (expanded runs) =
    length-append its (expanded runs) ∙ ap (λ (k : ℕ). k + length (expanded runs))
    (length-replicate item.steps item.process) in
    let is_run : IsRun n item = all.0 in
    let below : item.process < n = is_run.below in
    let some : 0 < item.steps = is_run.some in
    let short : item.steps ≤ 10000000 = omega arith in (
      record { process = omega arith; steps = omega arith; some = some },
      all_small n runs few_processes all.1
          (omega arith),
    )

read_runs : (n : ℕ) (runs : List Item) → n ≤ 2 ^ 64 → AllByRecursion (IsRun n) runs → length (expanded runs) ≤ 10000000
    → schedule_of n (joined (map item_text runs)) ≡ Ok (expanded runs)
read_runs n [] few_processes all few = refl
read_runs n (item ∷ runs) few_processes all few =
    let small : AllByRecursion Small (item ∷ runs) = all_small n (item ∷ runs) few_processes all few in
    ap (with_pieces (with_piece n) 0 (Ok [])) (split_texts item runs small.0 small.1)
    ∙ with_runs n 0 [] (item ∷ runs) few_processes all (omega arith)

-- the runs of a list of steps

expanded-onto : (item : Item) (runs : List Item) → expanded (run_onto item runs) ≡ replicate item.steps item.process
    ++ expanded runs
expanded-onto item [] = refl
expanded-onto item (next ∷ runs) = by_test (item.process == next.process) refl
  where
    its : List ℕ
    its = replicate item.steps item.process

    by_test : (test : Bool) → (item.process == next.process) ≡ test
        → expanded (cond test (run item.process (item.steps + next.steps) ∷ runs) (item ∷ next ∷ runs))
        ≡ replicate item.steps item.process ++ (replicate next.steps next.process ++ expanded runs)
    by_test true is =
        ap (λ (steps : List ℕ). steps ++ expanded runs)
        (sym (replicate-append-replicate item.steps next.steps item.process))
        ∙ append_assoc (replicate item.steps item.process) (replicate next.steps item.process) (expanded runs)
        ∙ ap (λ (p : ℕ). replicate item.steps item.process ++ (replicate next.steps p ++ expanded runs))
        (eqb-true item.process next.process is)
    by_test false is = refl

expanded-runs : (steps : List ℕ) → expanded (runs_of steps) ≡ steps
expanded-runs [] = refl
expanded-runs (p ∷ steps) =
    expanded-onto (run p 1) (runs_of steps) ∙ ap (λ (rest : List ℕ). p ∷ rest) (expanded-runs steps)

onto_runs : (n : ℕ) (item : Item) (runs : List Item) → IsRun n item → AllByRecursion (IsRun n) runs
    → AllByRecursion (IsRun n) (run_onto item runs)
onto_runs n item [] is all = (is, tt)
onto_runs n item (next ∷ runs) is all = by_test (item.process == next.process)
  where
    by_test : (test : Bool) → AllByRecursion (IsRun n)
        (cond test (run item.process (item.steps + next.steps) ∷ runs) (item ∷ next ∷ runs))
    by_test true = (record { below = is.below; some = let some : 0 < item.steps = is.some in omega arith }, all.1)
    by_test false = (is, all)

all_runs : (n : ℕ) (steps : List ℕ) → All (λ p. p < n) steps → AllByRecursion (IsRun n) (runs_of steps)
all_runs n [] below = tt
all_runs n (p ∷ steps) below =
    onto_runs n (run p 1) (runs_of steps)
    (record { below = All-head (λ (q : ℕ). q < n) p steps below; some = omega arith })
    (all_runs n steps (All-tail (λ (q : ℕ). q < n) p steps below))

pub written_reads_back : (n : ℕ) (steps : List ℕ) → n ≤ 2 ^ 64 → All (λ p. p < n) steps → length steps ≤ 10000000
    → schedule_of n (schedule_text steps) ≡ Ok steps
written_reads_back n steps few_processes below few =
    let same : expanded (runs_of steps) ≡ steps = expanded-runs steps in
    let short : length (expanded (runs_of steps)) ≤ 10000000 = subst (λ (s : List ℕ). length s ≤ 10000000)
    (sym same) few in
    read_runs n (runs_of steps) few_processes (all_runs n steps below) short ∙ ap Ok same
