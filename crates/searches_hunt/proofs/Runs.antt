-- Runs of the source machine: a process that has trapped stays so (`trapped_stays`), a step changes the
-- status of its own process alone, and where all have stopped nothing more happens (`nothing_more`). So where
-- none had trapped, the status of the process that steps tells whether one has (`trap_told`).
-- The idea. A process has trapped where some status of a list is a trap, and a step writes one status
-- (`statuses_set`). `any_stays` and `any_new` say what such a write does to the answer. Runs follow by
-- induction on the schedule.
-- The difficulty is small. The process of a step may have stopped, or there may be no such process. So each
-- fact is shown by a case split on the process (`stays_of`, `told_of`, `idle_of`) and its status (`stays_as`,
-- `told_as`, `idle_as`).
-- Read `any_stays` and `any_new` first.
use Rattle.std.proofs.Common.{◌≡◌, ◌⊎◌, inl, inr, ⊎_elim, ℕ, zero, suc, ◌+◌, ◌<◌, ◌≤◌, Bool, true, false, List, [], ◌∷◌, ◌++◌, length, map, set, drop, get_or, replicate, refl, sym, ◌∙◌, ap, arith, Option, Some, None}
use Rattle.std.specs.Prelude.{slice_get, ◌||◌}
use Rattle.std.specs.List.{list_any}
use Rattle.std.specs.Option.{option_map}
use Rattle.std.proofs.lemmas.Bool.{both_ways}
use Rattle.std.proofs.lemmas.List.{map-set}
use Rattle.std.proofs.lemmas.Option.{same_Some, none-some, slice_get-map, slice_get_within}
use Rattle.std.proofs.Math.Seq.{drop-cons, drop-length}
use Rattle.base.specs.declared.status.Status.{Status}
use Rattle.base.specs.declared.status.Trap.{Trap}
use Rattle.base.specs.declared.status.Status.TheVariants.{Running, Ended, Trapped}
use Rattle.base.specs.Plain.{WholeProgram}
use Rattle.tick_source.specs.Source.{SourceProcess, SourceState, start_process, source_start, did, step_as, step_of, source_step, source_run, statuses_of}
use Rattle.searches_explore.specs.Explored.{is_trap, has_trapped}

pub most_or_more : (m n : ℕ) → (m ≤ n) ⊎ (n < m)
most_or_more zero n = inl (omega arith)
most_or_more (suc m) zero = inr (omega arith)
most_or_more (suc m) (suc n) = ⊎_elim (λ h. inl (omega arith)) (λ h. inr (omega arith)) (most_or_more m n)

none_of : (k : ℕ) (q : SourceProcess) → is_trap q.status ≡ false → list_any is_trap (map (λ x. x.status) (replicate k q)) ≡ false
none_of zero q good = refl
none_of (suc k) q good = ap (λ b. b || list_any is_trap (map (λ x. x.status) (replicate k q))) good ∙ none_of k q good

-- at the start no process has trapped
pub none_at_start : (a : WholeProgram ℕ) → has_trapped (source_start a) ≡ false
none_at_start a = none_of a.processes (start_process a) refl

pub run_append : (n : ℕ) (xs ys : List ℕ) (s : SourceState) → source_run n (xs ++ ys) s ≡ source_run n ys (source_run n xs s)
run_append n [] ys s = refl
run_append n (p ∷ xs) ys s = run_append n xs ys (source_step n p s)

-- of a disjunction
right_one : (a b : Bool) → a ≡ false → (a || b) ≡ true → b ≡ true
right_one true b e h = absurd (both_ways true e refl)
right_one false b e h = h

or_true : (a b : Bool) → b ≡ true → (a || b) ≡ true
or_true true b e = refl
or_true false b e = e

pub or_late : (b : Bool) → (b || true) ≡ true
or_late true = refl
or_late false = refl

or_kept : (a b c : Bool) → (b ≡ true → c ≡ true) → (a || b) ≡ true → (a || c) ≡ true
or_kept true b c f e = refl
or_kept false b c f e = f e

left_false : (a b : Bool) → (a || b) ≡ false → a ≡ false
left_false true b e = e
left_false false b e = refl

right_false : (a b : Bool) → (a || b) ≡ false → b ≡ false
right_false true b e = absurd (both_ways true e refl)
right_false false b e = e

or_false : (a b : Bool) → b ≡ false → (a || b) ≡ a
or_false true b e = refl
or_false false b e = e

-- One element of a list is another now.
module _ {X : Type 0} (test : X → Bool) where
  any_stays : (xs : List X) (i : ℕ) (x y : X) → slice_get xs i ≡ Some x → test x ≡ false → list_any test xs ≡ true → list_any test (set xs i y) ≡ true
  any_stays [] i x y here good any = any
  any_stays (z ∷ xs) zero x y here good any =
      or_true (test y) (list_any test xs) (right_one (test z) (list_any test xs) (ap test (same_Some z x here) ∙ good) any)
  any_stays (z ∷ xs) (suc i) x y here good any =
      or_kept (test z) (list_any test xs) (list_any test (set xs i y)) (any_stays xs i x y here good) any

  none_there : (xs : List X) (i : ℕ) (x : X) → slice_get xs i ≡ Some x → list_any test xs ≡ false → test x ≡ false
  none_there [] i x here none = absurd (none-some x here)
  none_there (z ∷ xs) zero x here none = ap test (sym (same_Some z x here)) ∙ left_false (test z) (list_any test xs) none
  none_there (z ∷ xs) (suc i) x here none = none_there xs i x here (right_false (test z) (list_any test xs) none)

  any_new : (xs : List X) (i : ℕ) (y : X) → i < length xs → list_any test xs ≡ false → list_any test (set xs i y) ≡ test y
  any_new [] i y inside none = absurd (omega arith)
  any_new (z ∷ xs) zero y inside none = or_false (test y) (list_any test xs) (right_false (test z) (list_any test xs) none)
  any_new (z ∷ xs) (suc i) y inside none =
      ap (λ b. b || list_any test (set xs i y)) (left_false (test z) (list_any test xs) none)
      ∙ any_new xs i y (omega arith) (right_false (test z) (list_any test xs) none)

get_set : {X : Type 0} (xs : List X) (i : ℕ) (x y : X) → slice_get xs i ≡ Some x → slice_get (set xs i y) i ≡ Some y
get_set [] i x y here = absurd (none-some x here)
get_set (z ∷ xs) zero x y here = refl
get_set (z ∷ xs) (suc i) x y here = get_set xs i x y here

statuses_set : (qs : List SourceProcess) (p : ℕ) (q : SourceProcess) → map (λ x. x.status) (set qs p q) ≡ set (map (λ x. x.status) qs) p q.status
statuses_set qs p q = map-set (λ x. x.status) qs p q

status_there : (s : SourceState) (p : ℕ) (q : SourceProcess) → slice_get s.processes p ≡ Some q → slice_get (statuses_of s) p ≡ Some q.status
status_there s p q here = slice_get-map (λ x. x.status) s.processes p ∙ ap (option_map (λ x. x.status)) here

-- a step, by the status of the process
stays_as : (n p : ℕ) (s : SourceState) (q : SourceProcess) (status : Status) → slice_get s.processes p ≡ Some q → q.status ≡ status
    → has_trapped s ≡ true → has_trapped (step_as n p s q status) ≡ true
stays_as n p s q Running here is trapped =
    let q' = (did n p s.tickets s.rows q.variables q.scans q.rest).process in
    ap (list_any is_trap) (statuses_set s.processes p q')
    ∙ any_stays is_trap (statuses_of s) p q.status q'.status (status_there s p q here) (ap is_trap is) trapped
stays_as n p s q Ended here is trapped = trapped
stays_as n p s q (Trapped t) here is trapped = trapped

stays_of : (n p : ℕ) (s : SourceState) (q : Option SourceProcess) → slice_get s.processes p ≡ q → has_trapped s ≡ true → has_trapped (step_of n p s q) ≡ true
stays_of n p s None here trapped = trapped
stays_of n p s (Some q) here trapped = stays_as n p s q q.status here refl trapped

pub trapped_stays : (n : ℕ) (schedule : List ℕ) (s : SourceState) → has_trapped s ≡ true → has_trapped (source_run n schedule s) ≡ true
trapped_stays n [] s trapped = trapped
trapped_stays n (p ∷ schedule) s trapped =
    trapped_stays n schedule (source_step n p s) (stays_of n p s (slice_get s.processes p) refl trapped)

told_as : (n p : ℕ) (s : SourceState) (q : SourceProcess) (status told : Status) → slice_get s.processes p ≡ Some q → q.status ≡ status
    → has_trapped s ≡ false → slice_get (statuses_of (step_as n p s q status)) p ≡ Some told → has_trapped (step_as n p s q status) ≡ is_trap told
told_as n p s q Running told here is none tells =
    let q' = (did n p s.tickets s.rows q.variables q.scans q.rest).process in
    let there = status_there s p q here in
    let after = statuses_set s.processes p q' in
    let same : q'.status ≡ told =
    same_Some q'.status told (sym (get_set (statuses_of s) p q.status q'.status there) ∙ ap (λ xs. slice_get xs p) (sym after) ∙ tells) in
    ap (list_any is_trap) after
    ∙ any_new is_trap (statuses_of s) p q'.status (slice_get_within (statuses_of s) p q.status there) none
    ∙ ap is_trap same
told_as n p s q Ended told here is none tells = none ∙ sym (none_there is_trap (statuses_of s) p told tells none)
told_as n p s q (Trapped t) told here is none tells = none ∙ sym (none_there is_trap (statuses_of s) p told tells none)

told_of : (n p : ℕ) (s : SourceState) (q : Option SourceProcess) (told : Status) → slice_get s.processes p ≡ q → has_trapped s ≡ false
    → slice_get (statuses_of (step_of n p s q)) p ≡ Some told → has_trapped (step_of n p s q) ≡ is_trap told
told_of n p s None told here none tells = none ∙ sym (none_there is_trap (statuses_of s) p told tells none)
told_of n p s (Some q) told here none tells = told_as n p s q q.status told here refl none tells

-- Where none had trapped, one has after a step exactly where that process has.
pub trap_told : (n p : ℕ) (s : SourceState) (told : Status) → has_trapped s ≡ false
    → slice_get (statuses_of (source_step n p s)) p ≡ Some told → has_trapped (source_step n p s) ≡ is_trap told
trap_told n p s told none tells = told_of n p s (slice_get s.processes p) told refl none tells

pub no_trap : (status : Status) → ((t : Trap) → status ≡ Trapped t → ⊥) → is_trap status ≡ false
no_trap Running none = refl
no_trap Ended none = refl
no_trap (Trapped t) none = absurd (none t refl)

-- no process runs
abbrev pub HaveStopped : SourceState → Type 0
HaveStopped s = (p : ℕ) (status : Status) → slice_get (statuses_of s) p ≡ Some status → status ≡ Running → ⊥

idle_as : (n p : ℕ) (s : SourceState) (q : SourceProcess) (status : Status) → (status ≡ Running → ⊥) → step_as n p s q status ≡ s
idle_as n p s q Running stopped = absurd (stopped refl)
idle_as n p s q Ended stopped = refl
idle_as n p s q (Trapped t) stopped = refl

idle_of : (n p : ℕ) (s : SourceState) (q : Option SourceProcess) → slice_get s.processes p ≡ q → HaveStopped s → step_of n p s q ≡ s
idle_of n p s None here stopped = refl
idle_of n p s (Some q) here stopped = idle_as n p s q q.status (stopped p q.status (status_there s p q here))

pub nothing_more : (n : ℕ) (schedule : List ℕ) (s : SourceState) → HaveStopped s → source_run n schedule s ≡ s
nothing_more n [] s stopped = refl
nothing_more n (p ∷ schedule) s stopped =
    let same : source_step n p s ≡ s = idle_of n p s (slice_get s.processes p) refl stopped in
    ap (source_run n schedule) same ∙ nothing_more n schedule s stopped

-- one item more of the schedule is done
pub item_done : (n i : ℕ) (schedule : List ℕ) (s s' : SourceState) → i < length schedule → s' ≡ source_step n (get_or schedule i 0) s
    → source_run n (drop (i + 1) schedule) s' ≡ source_run n (drop i schedule) s
item_done n i schedule s s' inside step =
    let next : i + 1 ≡ suc i = omega arith in
    ap (λ j. source_run n (drop j schedule) s') next
    ∙ ap (source_run n (drop (suc i) schedule)) step
    ∙ ap (λ xs. source_run n xs s) (sym (drop-cons schedule i 0 inside))

pub all_done : (n i : ℕ) (schedule : List ℕ) (s : SourceState) → i ≡ length schedule → source_run n (drop i schedule) s ≡ s
all_done n i schedule s done = ap (λ xs. source_run n xs s) (ap (λ j. drop j schedule) done ∙ drop-length schedule)
