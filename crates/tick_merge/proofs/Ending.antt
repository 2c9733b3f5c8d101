-- What was gone through, and what is refused.
-- The idea. Step after step, the schedule is what the definition has for the history so far (`taken_more`). At a step that
-- was come to there may be a fault: it is not legal (`not_legal`), or its process doesn't make it (`not_this_code`). Then
-- the processes make the rest, one after another (`FirstSpent`, `one_spent`). Either all do, and the run is merged
-- (`all_spent`), or one doesn't make its part of the history (`not_at_end`).
-- Read `taken_more` first, then `one_spent` and `all_spent`.
use Rattle.std.proofs.Common.{◌≡◌, inl, inr, ⊎_elim, true, ℕ, zero, suc, ◌+◌, ◌-◌, ◌<◌, ◌≤◌, List, [], ◌∷◌, ◌++◌, length, replicate, get_or, take, drop, refl, ap, sym, subst, ◌∙◌, add-one, arith}
use Rattle.std.specs.Prelude.{slice_index, vec_items}
use Rattle.std.proofs.lemmas.Bool.{cases_eq}
use Rattle.std.proofs.lemmas.List.{length-take-le}
use Rattle.word_core.specs.History.{MayFollow}
use Rattle.word_core.specs.declared.history.Shared.{Shared}
use Rattle.code_core.specs.Instructions.{StepCode}
use Rattle.tick_merge.specs.Ran.{occurs}
use Rattle.tick_merge.specs.Merged.{turns_left, led, through, spent, merged, IsMerged}
use Rattle.tick_merge.specs.Laws.{MakesIts, AllMake}
use Rattle.tick_merge.specs.Refusals.{MakesWithin, CanBegin, IsFault}
use Rattle.tick_merge.specs.declared.fault.MergeFault.TheVariants.{NotLegal, NotThisCode}
use Rattle.tick_merge.specs.declared.merging.Merging.{Merging}
use Rattle.tick_merge.specs.prover.Held.{memory_held}
use Rattle.tick_merge.specs.prover.Reached.{Reached, StepTaken, ProcessSpent, AllTaken, AllSpent}
use Rattle.tick_merge.proofs.Lists.{occurs-others}
use Rattle.tick_merge.proofs.Whole.{is_there, merge_law}

-- a list parted at a place
parted : {X : Type 0} (xs : List X) (k : ℕ) (d : X) → k < length xs → xs ≡ take k xs ++ get_or xs k d ∷ drop (suc k) xs
parted [] k d inside = absurd (omega (arith, inside))
parted (y ∷ xs) zero d inside = refl
parted (y ∷ xs) (suc k) d inside = ap (λ zs. y ∷ zs) (parted xs k d (omega (arith, inside)))

taken_suc : {X : Type 0} (xs : List X) (k : ℕ) (d : X) → k < length xs → take (suc k) xs ≡ take k xs ++ get_or xs k d ∷ []
taken_suc [] k d inside = absurd (omega (arith, inside))
taken_suc (y ∷ xs) zero d inside = refl
taken_suc (y ∷ xs) (suc k) d inside = ap (λ zs. y ∷ zs) (taken_suc xs k d (omega (arith, inside)))

pub take_one : {X : Type 0} (xs : List X) (k : ℕ) (d : X) → k < length xs → take (k + 1) xs ≡ take k xs ++ get_or xs k d ∷ []
take_one xs k d inside = ap (λ j. take j xs) (add-one k) ∙ taken_suc xs k d inside

through-snoc : (c : StepCode) (turns schedule : List ℕ) (history : List Shared) (step : Shared)
    → through c turns schedule (history ++ step ∷ []) ≡ led c turns (through c turns schedule history) step.process
through-snoc c turns schedule [] step = refl
through-snoc c turns schedule (first ∷ history) step = through-snoc c turns (led c turns schedule first.process) history step

-- one step more
pub taken_more : (c : StepCode) (turns : List ℕ) (history longer : List Shared) (step : Shared) (old new : Merging) → longer ≡ history ++ step ∷ []
    → AllTaken c turns history old → StepTaken c turns history step old new true → AllTaken c turns longer new
taken_more c turns history longer step old new is taken one =
    subst (λ h. AllTaken c turns h new) (sym is)
    (record {
      reached = one.0;
      led = one.1 ∙ ap (λ t. led c turns t step.process) taken.led ∙ sym (through-snoc c turns [] history step);
    })

-- what was made so far
makes_so_far : (c : StepCode) (turns : List ℕ) (history : List Shared) (m : Merging) → Reached c turns history m → (p : ℕ) → p < c.sizes.processes
    → MakesIts c p (occurs p (vec_items m.schedule)) history
makes_so_far c turns history m r p below =
    let there = is_there c r.verified (vec_items m.schedule) p below in
    let at = r.stands.each p there.0 there.1 in
    record { local = at.local; is_local = at.is_local; own = at.own }

pub can_begin : (c : StepCode) (turns : List ℕ) (history : List Shared) (m : Merging) → Reached c turns history m → CanBegin c turns history
can_begin c turns history m r = record {
  legal = r.legal;
  made = λ p below.
      record { count = occurs p (vec_items m.schedule); few = omega (arith, r.left p below); makes = makes_so_far c turns history m r p below };
}

-- The step at a place that was come to.
module _ (c : StepCode) (turns : List ℕ) (history : List Shared) (place : ℕ) (other : Shared) (m : Merging) (inside : place < length history)
    (r : Reached c turns (take place history) m) where
  long : place ≡ length (take place history)
  long = sym (length-take-le place history (omega (arith, inside)))

  pub not_legal : (MayFollow c.sizes.processes c.sizes.rows (memory_held m.words) (get_or history place other) → ⊥) → IsFault c turns history (NotLegal place)
  not_legal bad = inl (record {
    front = take place history;
    step = get_or history place other;
    rest = drop (suc place) history;
    is = parted history place other inside;
    begins = can_begin c turns (take place history) m r;
    refused = (long, λ follows. bad (subst (λ k. MayFollow c.sizes.processes c.sizes.rows k (get_or history place other)) (sym r.words) follows));
  })

  pub not_this_code : MayFollow c.sizes.processes c.sizes.rows (memory_held m.words) (get_or history place other)
      → ¬ MakesWithin c (get_or history place other).process (slice_index turns (get_or history place other).process) (take place history ++ get_or history place other ∷ [])
      → IsFault c turns history (NotThisCode (get_or history place other).process place)
  not_this_code follows bad = inl (record {
    front = take place history;
    step = get_or history place other;
    rest = drop (suc place) history;
    is = parted history place other inside;
    begins = can_begin c turns (take place history) m r;
    refused = (long, refl, subst (λ k. MayFollow c.sizes.processes c.sizes.rows k (get_or history place other)) r.words follows, bad);
  })

-- the first `k` processes made the rest of their instructions
pub record FirstSpent (c : StepCode) (turns : List ℕ) (history : List Shared) (k : ℕ) (m : Merging) : Type 0 where
  pub reached : Reached c turns history m
  pub led : vec_items m.schedule ≡ spent turns (through c turns [] history) k
  pub makes : (p : ℕ) → p < k → p < c.sizes.processes → MakesIts c p (slice_index turns p) history

pub none_spent : (c : StepCode) (turns : List ℕ) (history : List Shared) (m : Merging) → AllTaken c turns history m → FirstSpent c turns history 0 m
none_spent c turns history m taken = record { reached = taken.reached; led = taken.led; makes = λ p below inside. absurd (omega (arith, below)) }

-- a process that comes later made nothing more
spent_later : (turns schedule : List ℕ) (k p : ℕ) → k ≤ p → occurs p (spent turns schedule k) ≡ occurs p schedule
spent_later turns schedule zero p past = refl
spent_later turns schedule (suc k) p past =
    occurs-others k p (turns_left turns schedule k) (spent turns schedule k) (λ same. omega (arith, past, same))
    ∙ spent_later turns schedule k p (omega (arith, past))

pub one_spent : (c : StepCode) (turns : List ℕ) (history : List Shared) (k : ℕ) (old new : Merging) → k < c.sizes.processes → FirstSpent c turns history k old
    → ProcessSpent c turns history k old new true → FirstSpent c turns history (k + 1) new
one_spent c turns history k old new below before one =
    let front : List ℕ = through c turns [] history in
    let rest : turns_left turns (vec_items old.schedule) k ≡ turns_left turns front k =
    ap (λ t. turns_left turns t k) before.led ∙ ap (λ j. slice_index turns k - j) (spent_later turns front k k (omega arith)) in
    record {
      reached = one.0;
      led = one.1 ∙ (λ i. before.led i ++ replicate (rest i) k) ∙ ap (spent turns front) (sym (add-one k));
      makes = λ p under inside.
          ⊎_elim
          (λ same. subst (λ j. MakesIts c j (slice_index turns j) history) (sym same)
          (subst (λ j. MakesIts c k j history) one.2 (makes_so_far c turns history new one.0 k below)))
          (λ apart. before.makes p (omega (arith, under, apart)) inside)
          (cases_eq p k);
    }

pub all_spent : (c : StepCode) (turns : List ℕ) (history : List Shared) (k : ℕ) (m : Merging) → k ≡ c.sizes.processes → FirstSpent c turns history k m
    → AllSpent c turns history m
all_spent c turns history k m all first =
    let makes : AllMake c turns history = λ p below. first.makes p (omega (arith, all, below)) below in
    let is : vec_items m.schedule ≡ merged c turns history = first.led ∙ ap (spent turns (through c turns [] history)) all in
    record {
      legal = first.reached.legal;
      makes = makes;
      merged = is;
      whole = subst (IsMerged c turns history) (sym is) (merge_law c turns history first.reached.verified first.reached.few first.reached.legal makes);
    }

pub not_at_end : (c : StepCode) (turns : List ℕ) (history : List Shared) (p steps : ℕ) (m : Merging) → p < c.sizes.processes → length history ≡ steps
    → FirstSpent c turns history p m → ¬ MakesIts c p (slice_index turns p) history → IsFault c turns history (NotThisCode p steps)
not_at_end c turns history p steps m below long first bad = inr (record {
  begins = can_begin c turns history m first.reached;
  refused = (sym long, below, bad, λ j under. first.makes j under (omega (arith, under, below)));
})
