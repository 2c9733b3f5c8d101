-- The rows of private steps are in order, hold just the private steps, and can't be longer (`in_order_law`, `stands_law`,
-- `together_law`).
-- The idea. Rows are made step by step, and the last one may still be open: it ends with the last step (`Open`). What is open
-- stands in the rows that are made in the end, perhaps longer (`own`), and what comes before it in none of these (`none_before`).
-- So each next step tells whether it goes on with what is open or begins anew. `made` has the rows by that test, so that a proof
-- can go by cases.
use Rattle.std.proofs.Common.{◌≡◌, ◌∙◌, ap, subst, sym, refl, arith, ℕ, zero, suc, ◌+◌, ◌<◌, ◌≤◌, Bool, true, false, if◌then◌else◌, List, [], ◌∷◌, ◌++◌, length, Option, None, Some}
use Rattle.std.specs.Prelude.{◌==◌, ◌&&◌, nat_le, is_none, option_and_then, option_map, slice_get}
use borrow.Author.Tests.{eqb-true, eq-eqb, ne_eqb, le-leb, lt-leb, lt-ltb, le-ltb}
use Rattle.ticklab_trace.specs.Folds.{begun, goes_on, listed, longer, rows_from}
use Rattle.ticklab_trace.specs.Parts.{begun_at}
use Rattle.ticklab_trace.specs.RowLaws.{AreInOrder, InOrderLaw, StandsLaw, TogetherLaw, are_alike, is_one, owner, row_of}
use Rattle.ticklab_trace.specs.declared.folds.Privacy.{Privacy}
use Rattle.ticklab_trace.specs.declared.folds.Row.{Row}
use Rattle.ticklab_trace.specs.declared.parts.Parts.{Parts}

left_true : (a b : Bool) → (a && b) ≡ true → a ≡ true
left_true true b e = refl
left_true false b e = e

right_true : (a b : Bool) → (a && b) ≡ true → b ≡ true
right_true true b e = e
right_true false b e = absurd (cc)

-- a row that may go on, and has the last of so many steps
abbrev Open : ℕ → Option Row → Type 0
Open number None = Unit {0}
Open number (Some row) = (row.end ≡ number) × (row.first < number)

-- where it begins, or the next one can
abbrev begins : ℕ → Option Row → ℕ
begins number None = number
begins number (Some row) = row.first

-- the row of a step that stands in the first of these rows, before it, and behind it
in_first : (row : Row) (rows : List Row) (k : ℕ) → row.first ≤ k → k < row.end → row_of (row ∷ rows) k ≡ Some row
in_first row rows k low high =
    ap (λ t. if t then (if nat_le row.first k then Some row else None) else row_of rows k) (lt-ltb k row.end high)
    ∙ ap (λ t. if t then Some row else None) (le-leb row.first k low)

before_first : (row : Row) (rows : List Row) (k : ℕ) → k < row.first → row.first < row.end → row_of (row ∷ rows) k ≡ None
before_first row rows k low high =
    ap (λ t. if t then (if nat_le row.first k then Some row else None) else row_of rows k) (lt-ltb k row.end (omega arith))
    ∙ ap (λ t. if t then Some row else None) (lt-leb row.first k low)

past_first : (row : Row) (rows : List Row) (k : ℕ) → row.end ≤ k → row_of (row ∷ rows) k ≡ row_of rows k
past_first row rows k past =
    ap (λ t. if t then (if nat_le row.first k then Some row else None) else row_of rows k) (le-ltb k row.end past)

-- what is behind a step: what was open, where the step goes on with it, and otherwise perhaps a new row
abbrev left : ℕ → Option Row → Privacy → Bool → Option Row
left number open_row step goes = if goes then longer number open_row else begun number step

-- it begins where this one does, and is of the same process
abbrev IsOwn : Option Row → Row → Type 0
IsOwn found row = (option_map (λ (one : Row). one.first) found ≡ Some row.first) × (option_map (λ (one : Row). one.process) found ≡ Some row.process)

owned : (found : Option Row) (row : Row) → found ≡ Some row → IsOwn found row
owned found row is = (ap (option_map (λ (one : Row). one.first)) is, ap (option_map (λ (one : Row). one.process)) is)

module _ (parts : Option Parts) where
  abbrev made : ℕ → Option Row → Privacy → List Privacy → Bool → List Row
  made number open_row step steps goes = (if goes then [] else listed open_row) ++ rows_from parts (number + 1) (left number open_row step goes) steps

  begun_open : (number p : ℕ) (is_private : Bool) → Open (number + 1) (if is_private then Some (record { first = number; end = number + 1; process = p }) else None)
  begun_open number p true = (refl, omega arith)
  begun_open number p false = tt

  still_open : (number : ℕ) (o : Option Row) (step : Privacy) (goes : Bool) → Open number o → Open (number + 1) (left number o step goes)
  still_open number None step true open_row = tt
  still_open number (Some row) step true open_row = (refl, omega (arith, open_row.1))
  still_open number o step false open_row = begun_open number step.process step.is_private

  begun_behind : (k number p : ℕ) (is_private : Bool) → k < number
      → k < begins (number + 1) (if is_private then Some (record { first = number; end = number + 1; process = p }) else None)
  begun_behind k number p true low = low
  begun_behind k number p false low = omega arith

  -- no step stands in a row that comes before what is open
  none_made : (number : ℕ) (o : Option Row) (step : Privacy) (steps : List Privacy) (k : ℕ) (goes : Bool) → Open number o → k < begins number o
      → ((next : Option Row) → Open (number + 1) next → k < begins (number + 1) next → row_of (rows_from parts (number + 1) next steps) k ≡ None)
      → row_of (made number o step steps goes) k ≡ None
  none_made number None step steps k true open_row low more = more None tt (omega arith)
  none_made number (Some row) step steps k true open_row low more = more (longer number (Some row)) (still_open number (Some row) step true open_row) low
  none_made number None step steps k false open_row low more =
      more (begun number step) (begun_open number step.process step.is_private) (begun_behind k number step.process step.is_private low)
  none_made number (Some row) step steps k false open_row low more =
      before_first row (rows_from parts (number + 1) (begun number step) steps) k low (omega (arith, open_row.0, open_row.1))

  none_before : (number : ℕ) (o : Option Row) (steps : List Privacy) (k : ℕ) → Open number o → k < begins number o
      → row_of (rows_from parts number o steps) k ≡ None
  none_before number None [] k open_row low = refl
  none_before number (Some row) [] k open_row low = before_first row [] k low (omega (arith, open_row.0, open_row.1))
  none_before number o (step ∷ steps) k open_row low =
      none_made number o step steps k (goes_on parts number o step) open_row low (λ next is_open first. none_before (number + 1) next steps k is_open first)

  -- a step of what is open stands in a row that begins with it, and is of its process
  own_made : (number : ℕ) (row : Row) (step : Privacy) (steps : List Privacy) (k : ℕ) (goes : Bool) → row.end ≡ number → row.first ≤ k → k < number
      → ((next : Row) → next.end ≡ number + 1 → next.first ≤ k → k < number + 1 → IsOwn (row_of (rows_from parts (number + 1) (Some next) steps) k) next)
      → IsOwn (row_of (made number (Some row) step steps goes) k) row
  own_made number row step steps k true end low high more = more (record { first = row.first; end = number + 1; process = row.process }) refl low (omega arith)
  own_made number row step steps k false end low high more =
      owned (row_of (row ∷ rows_from parts (number + 1) (begun number step) steps) k) row
      (in_first row (rows_from parts (number + 1) (begun number step) steps) k low (omega (arith, end)))

  own : (number : ℕ) (row : Row) (steps : List Privacy) (k : ℕ) → row.end ≡ number → row.first ≤ k → k < number
      → IsOwn (row_of (rows_from parts number (Some row) steps) k) row
  own number row [] k end low high = owned (row_of (row ∷ []) k) row (in_first row [] k low (omega (arith, end)))
  own number row (step ∷ steps) k end low high =
      own_made number row step steps k (goes_on parts number (Some row) step) end low high
      (λ next is_end first last. own (number + 1) next steps k is_end first last)

  -- what is open doesn't matter to later steps
  skipped : (number : ℕ) (o : Option Row) (step : Privacy) (steps : List Privacy) (k : ℕ) (goes : Bool) → Open number o → number ≤ k
      → row_of (made number o step steps goes) k ≡ row_of (rows_from parts (number + 1) (left number o step goes) steps) k
  skipped number o step steps k true open_row past = refl
  skipped number None step steps k false open_row past = refl
  skipped number (Some row) step steps k false open_row past =
      past_first row (rows_from parts (number + 1) (begun number step) steps) k (omega (arith, open_row.0))

  goes_privately : (number : ℕ) (row : Row) (step : Privacy) → goes_on parts number (Some row) step ≡ true → step.is_private ≡ true
  goes_privately number row step goes = left_true step.is_private (step.process == row.process) (left_true (step.is_private && (step.process == row.process)) (is_none (begun_at parts number)) goes)

  goes_alone : (number : ℕ) (row : Row) (step : Privacy) → goes_on parts number (Some row) step ≡ true → step.process ≡ row.process
  goes_alone number row step goes =
      eqb-true step.process row.process
      (right_true step.is_private (step.process == row.process) (left_true (step.is_private && (step.process == row.process)) (is_none (begun_at parts number)) goes))

  begun_stands : (number p : ℕ) (is_private : Bool) (steps : List Privacy) (k : ℕ) → k ≡ number
      → option_map (λ (one : Row). one.process)
      (row_of (rows_from parts (number + 1) (if is_private then Some (record { first = number; end = number + 1; process = p }) else None) steps) k)
      ≡ (if is_private then Some p else None)
  begun_stands number p true steps k here =
      (own (number + 1) (record { first = number; end = number + 1; process = p }) steps k refl (omega (arith, here)) (omega (arith, here))).1
  begun_stands number p false steps k here =
      ap (option_map (λ (one : Row). one.process)) (none_before (number + 1) None steps k tt (omega (arith, here)))

  first_stands : (number : ℕ) (o : Option Row) (step : Privacy) (steps : List Privacy) (k : ℕ) (goes : Bool) → Open number o → k ≡ number
      → goes_on parts number o step ≡ goes
      → option_map (λ (one : Row). one.process) (row_of (rows_from parts (number + 1) (left number o step goes) steps) k) ≡ owner step
  first_stands number None step steps k true open_row here is = absurd (cc)
  first_stands number (Some row) step steps k true open_row here is =
      (own (number + 1) (record { first = row.first; end = number + 1; process = row.process }) steps k refl (omega (arith, here, open_row.1)) (omega (arith, here))).1
      ∙ ap Some (sym (goes_alone number row step is))
      ∙ sym (ap (λ t. if t then Some step.process else None) (goes_privately number row step is))
  first_stands number o step steps k false open_row here is = begun_stands number step.process step.is_private steps k here

  stands : (number : ℕ) (o : Option Row) (steps : List Privacy) (i : ℕ) → Open number o
      → option_map (λ (one : Row). one.process) (row_of (rows_from parts number o steps) (number + i)) ≡ option_and_then owner (slice_get steps i)
  stands number None [] i open_row = refl
  stands number (Some row) [] i open_row = ap (option_map (λ (one : Row). one.process)) (past_first row [] (number + i) (omega (arith, open_row.0)))
  stands number o (step ∷ steps) zero open_row =
      let goes = goes_on parts number o step in
      ap (option_map (λ (one : Row). one.process)) (skipped number o step steps (number + 0) goes open_row (omega arith))
      ∙ first_stands number o step steps (number + 0) goes open_row (omega arith) refl
  stands number o (step ∷ steps) (suc i) open_row =
      let goes = goes_on parts number o step in
      let further : number + suc i ≡ number + 1 + i = omega arith in
      ap (option_map (λ (one : Row). one.process)) (skipped number o step steps (number + suc i) goes open_row (omega arith))
      ∙ ap (λ k. option_map (λ (one : Row). one.process) (row_of (rows_from parts (number + 1) (left number o step goes) steps) k)) further
      ∙ stands (number + 1) (left number o step goes) steps i (still_open number o step goes open_row)

  -- the row that is open behind a step has it, where it is private, and there is none where it isn't
  abbrev HasLast : ℕ → Option Row → Privacy → Type 0
  HasLast number None step = step.is_private ≡ false
  HasLast number (Some row) step = (row.end ≡ number + 1) × (row.first ≤ number) × (row.process ≡ step.process) × (step.is_private ≡ true)

  begun_last : (number : ℕ) (step : Privacy) (is_private : Bool) → step.is_private ≡ is_private
      → HasLast number (if is_private then Some (record { first = number; end = number + 1; process = step.process }) else None) step
  begun_last number step true is = (refl, omega arith, refl, is)
  begun_last number step false is = is

  has_last : (number : ℕ) (o : Option Row) (step : Privacy) (goes : Bool) → Open number o → goes_on parts number o step ≡ goes
      → HasLast number (left number o step goes) step
  has_last number None step true open_row is = absurd (cc)
  has_last number (Some row) step true open_row is =
      (refl, omega (arith, open_row.1), sym (goes_alone number row step is), goes_privately number row step is)
  has_last number o step false open_row is = begun_last number step step.is_private refl

  -- two steps, the second of which comes behind so many others, by what is open behind the first
  one_by : (found other : Option Row) (first next : ℕ) → option_map (λ (one : Row). one.first) found ≡ Some first
      → option_map (λ (one : Row). one.first) other ≡ Some next → is_one found other ≡ (first == next)
  one_by None other first next is same = absurd (cc)
  one_by (Some row) None first next is same = absurd (cc)
  one_by (Some row) (Some another) first next is same = let a : row.first ≡ first = cc in let b : another.first ≡ next = cc in ap (λ k. k == another.first) a ∙ ap (λ k. first == k) b

  alike_by : (number : ℕ) (row : Row) (step next : Privacy) → row.process ≡ step.process → step.is_private ≡ true
      → are_alike parts number (Some step) (Some next) ≡ goes_on parts number (Some row) next
  alike_by number row step next same private =
      ap (λ t. t && (next.is_private && (next.process == step.process) && is_none (begun_at parts number))) private
      ∙ ap (λ p. next.is_private && (next.process == p) && is_none (begun_at parts number)) (sym same)

  one_before : (number p : ℕ) (row : Row) (is_private : Bool) (steps : List Privacy) → row.first < number
      → is_one (Some row) (row_of (rows_from parts (number + 1) (if is_private then Some (record { first = number; end = number + 1; process = p }) else None) steps) number) ≡ false
  one_before number p row true steps low =
      one_by (Some row) _ row.first number refl
      (own (number + 1) (record { first = number; end = number + 1; process = p }) steps number refl (omega arith) (omega arith)).0
      ∙ ne_eqb row.first number (λ e. omega (arith, e))
  one_before number p row false steps low = ap (is_one (Some row)) (none_before (number + 1) None steps number tt (omega arith))

  one_made : (before number : ℕ) (row : Row) (step : Privacy) (steps : List Privacy) (goes : Bool) → row.end ≡ number → row.first ≤ before → number ≡ before + 1
      → is_one (row_of (made number (Some row) step steps goes) before) (row_of (made number (Some row) step steps goes) number) ≡ goes
  one_made before number row step steps true end low next =
      let longer_row : Row = record { first = row.first; end = number + 1; process = row.process } in
      one_by (row_of (rows_from parts (number + 1) (Some longer_row) steps) before) (row_of (rows_from parts (number + 1) (Some longer_row) steps) number) row.first row.first
      (own (number + 1) longer_row steps before refl low (omega arith)).0 (own (number + 1) longer_row steps number refl (omega arith) (omega arith)).0
      ∙ eq-eqb row.first row.first refl
  one_made before number row step steps false end low next =
      let rest = rows_from parts (number + 1) (begun number step) steps in
      ap (λ found. is_one found (row_of (row ∷ rest) number)) (in_first row rest before low (omega arith))
      ∙ ap (is_one (Some row)) (past_first row rest number (omega arith))
      ∙ one_before number step.process row step.is_private steps (omega arith)

  not_alike : (number : ℕ) (step : Privacy) (next : Option Privacy) → step.is_private ≡ false → are_alike parts number (Some step) next ≡ false
  not_alike number step None seen = refl
  not_alike number step (Some next) seen = ap (λ t. t && (next.is_private && (next.process == step.process) && is_none (begun_at parts number))) seen

  neighbours : (before : ℕ) (o : Option Row) (step : Privacy) (steps : List Privacy) (number : ℕ) → number ≡ before + 1 → HasLast before o step
      → is_one (row_of (rows_from parts number o steps) before) (row_of (rows_from parts number o steps) number)
      ≡ are_alike parts number (Some step) (slice_get steps 0)
  neighbours before None step steps number next last =
      ap (λ found. is_one found (row_of (rows_from parts number None steps) number)) (none_before number None steps before tt (omega arith))
      ∙ sym (not_alike number step (slice_get steps 0) last)
  neighbours before (Some row) step [] number next last =
      ap (λ found. is_one found (row_of (row ∷ []) number)) (in_first row [] before last.1 (omega (arith, last.0)))
      ∙ ap (is_one (Some row)) (past_first row [] number (omega (arith, last.0)))
  neighbours before (Some row) step (another ∷ steps) number next last =
      one_made before number row another steps (goes_on parts number (Some row) another) (last.0 ∙ sym next) last.1 next
      ∙ sym (alike_by number row step another last.2 last.3)

  none_last : (number : ℕ) (o : Option Row) (k : ℕ) → Open number o → number ≤ k → row_of (listed o) k ≡ None
  none_last number None k open_row past = refl
  none_last number (Some row) k open_row past = past_first row [] k (omega (arith, open_row.0))

  together : (number : ℕ) (o : Option Row) (steps : List Privacy) (i : ℕ) → Open number o
      → is_one (row_of (rows_from parts number o steps) (number + i)) (row_of (rows_from parts number o steps) (number + i + 1))
      ≡ are_alike parts (number + i + 1) (slice_get steps i) (slice_get steps (i + 1))
  together number o [] i open_row =
      ap (λ found. is_one found (row_of (listed o) (number + i + 1))) (none_last number o (number + i) open_row (omega arith))
  together number o (step ∷ steps) zero open_row =
      let goes = goes_on parts number o step in
      let rest = rows_from parts (number + 1) (left number o step goes) steps in
      let first : number + 0 ≡ number = omega arith in
      let second : number + 0 + 1 ≡ number + 1 = omega arith in
      ap (λ found. is_one found (row_of (rows_from parts number o (step ∷ steps)) (number + 0 + 1))) (skipped number o step steps (number + 0) goes open_row (omega arith))
      ∙ ap (is_one (row_of rest (number + 0))) (skipped number o step steps (number + 0 + 1) goes open_row (omega arith))
      ∙ ap (λ k. is_one (row_of rest k) (row_of rest (number + 0 + 1))) first
      ∙ ap (λ k. is_one (row_of rest number) (row_of rest k)) second
      ∙ neighbours number (left number o step goes) step steps (number + 1) refl (has_last number o step goes open_row refl)
      ∙ sym (ap (λ k. are_alike parts k (Some step) (slice_get steps 0)) second)
  together number o (step ∷ steps) (suc i) open_row =
      let goes = goes_on parts number o step in
      let rest = rows_from parts (number + 1) (left number o step goes) steps in
      let first : number + suc i ≡ number + 1 + i = omega arith in
      let second : number + suc i + 1 ≡ number + 1 + i + 1 = omega arith in
      let place : suc i + 1 ≡ suc (i + 1) = omega arith in
      ap (λ found. is_one found (row_of (rows_from parts number o (step ∷ steps)) (number + suc i + 1)))
      (skipped number o step steps (number + suc i) goes open_row (omega arith))
      ∙ ap (is_one (row_of rest (number + suc i))) (skipped number o step steps (number + suc i + 1) goes open_row (omega arith))
      ∙ ap (λ k. is_one (row_of rest k) (row_of rest (number + suc i + 1))) first
      ∙ ap (λ k. is_one (row_of rest (number + 1 + i)) (row_of rest k)) second
      ∙ together (number + 1) (left number o step goes) steps i (still_open number o step goes open_row)
      ∙ sym (ap (λ k. are_alike parts k (slice_get steps i) (slice_get steps (i + 1))) second)
      ∙ sym (ap (λ k. are_alike parts (number + suc i + 1) (slice_get steps i) (slice_get (step ∷ steps) k)) place)

  begun_from : (number p : ℕ) (is_private : Bool)
      → number ≤ begins (number + 1) (if is_private then Some (record { first = number; end = number + 1; process = p }) else None)
  begun_from number p true = omega arith
  begun_from number p false = omega arith

  order_made : (low high number : ℕ) (o : Option Row) (step : Privacy) (steps : List Privacy) (goes : Bool) → Open number o → low ≤ begins number o
      → ((from : ℕ) (next : Option Row) → Open (number + 1) next → from ≤ begins (number + 1) next → AreInOrder from high (rows_from parts (number + 1) next steps))
      → AreInOrder low high (made number o step steps goes)
  order_made low high number None step steps true open_row from more = more low None tt (omega arith)
  order_made low high number (Some row) step steps true open_row from more =
      more low (longer number (Some row)) (still_open number (Some row) step true open_row) from
  order_made low high number None step steps false open_row from more =
      let behind = begun_from number step.process step.is_private in
      more low (begun number step) (begun_open number step.process step.is_private) (omega (arith, behind))
  order_made low high number (Some row) step steps false open_row from more =
      let behind = begun_from number step.process step.is_private in (
        from,
        omega (arith, open_row.0, open_row.1),
        more row.end (begun number step) (begun_open number step.process step.is_private) (omega (arith, behind, open_row.0)),
      )

  in_order : (low number : ℕ) (o : Option Row) (steps : List Privacy) → Open number o → low ≤ begins number o
      → AreInOrder low (number + length steps) (rows_from parts number o steps)
  in_order low number None [] open_row from = omega arith
  in_order low number (Some row) [] open_row from = (from, omega (arith, open_row.0, open_row.1), omega (arith, open_row.0))
  in_order low number o (step ∷ steps) open_row from =
      let further : number + 1 + length steps ≡ number + suc (length steps) = omega arith in
      order_made low (number + suc (length steps)) number o step steps (goes_on parts number o step) open_row from
      (λ behind next is_open begun_behind. subst (λ high. AreInOrder behind high (rows_from parts (number + 1) next steps)) further
      (in_order behind (number + 1) next steps is_open begun_behind))

pub in_order_law : InOrderLaw
in_order_law parts before steps = in_order parts before before None steps tt (omega arith)

pub stands_law : StandsLaw
stands_law parts before steps i = stands parts before None steps i tt

pub together_law : TogetherLaw
together_law parts before steps i = together parts before None steps i tt
