-- A legal history that its processes make by themselves is the shared part of the merged run.
-- The idea. The run is led through the history step by step (`goes_through`, by induction over its rest): the process of a
-- step makes alone what comes before it, and then the step (`went_through`). Then each process makes what is left to it
-- (`spends_all`, by induction over the processes). What stands then is the merged run (`is_merged`), since a process has
-- one run by itself for the answers that it got.
-- Read `went_through` and `goes_through` first, then `merge_law`.
use Rattle.std.proofs.Common.{◌≡◌, ⊎_elim, ℕ, zero, suc, ◌<◌, ◌≤◌, List, [], ◌∷◌, ◌++◌, replicate, get_or, refl, ap, sym, subst, ◌∙◌, arith}
use Rattle.std.specs.Prelude.{slice_get, slice_index, Some}
use Rattle.std.proofs.lemmas.Bool.{cases_eq}
use Rattle.std.proofs.lemmas.List.{append-nil}
use Rattle.std.proofs.lemmas.Option.{slice_get-get_or}
use Rattle.word_core.specs.History.{memory_of, MayFollow, IsLegal}
use Rattle.word_core.specs.declared.history.Shared.{Shared}
use Rattle.word_core.proofs.OfferedHistory.{beginning, next_step}
use Rattle.code_core.specs.Instructions.{StepCode}
use Rattle.code_core.specs.Verified.{IsVerified}
use Rattle.code_machine.specs.Machine.{CodeProcess, start_process}
use Rattle.code_machine.proofs.Offered.{never_stuck_law}
use Rattle.stamp_table.specs.Passes.{mine}
use Rattle.stamp_table.proofs.Offered.{mine-append, mine-snoc_own}
use Rattle.tick_merge.specs.Local.{Local, IsLocalRun}
use Rattle.tick_merge.proofs.OneProcess.{once_per_answers}
use Rattle.tick_merge.specs.Ran.{run_under, occurs}
use Rattle.tick_merge.specs.Merged.{alone_of, turns_left, led, through, spent, merged, IsMerged}
use Rattle.tick_merge.specs.Laws.{MakesIts, AllMake, MergeLaw}
use Rattle.tick_merge.specs.prover.Standing.{Stands, Within}
use Rattle.tick_merge.proofs.Lists.{one_then, occurs-repeated}
use Rattle.tick_merge.proofs.Standing.{stands_start}
use Rattle.tick_merge.proofs.Going.{ComesTo, WentOn, leads, spends}

-- there is each process
pub is_there : (c : StepCode) → IsVerified c.sizes c.instructions → (schedule : List ℕ) (p : ℕ) → p < c.sizes.processes
    → (q : CodeProcess) × (slice_get (run_under c schedule).processes p ≡ Some q)
is_there c verified schedule p below =
    let many = (never_stuck_law c.sizes c.instructions verified schedule).safe.many in (
      get_or (run_under c schedule).processes p (start_process c.sizes),
      slice_get-get_or (run_under c schedule).processes p (start_process c.sizes) (omega (arith, many, below)),
    )

-- it comes to the end of what it makes in the whole history
pub comes_to : (c : StepCode) (p count : ℕ) (history rest : List Shared) → MakesIts c p count (history ++ rest)
    → ComesTo c p count (mine p history) (mine p rest)
comes_to c p count history rest makes = record {
  end = makes.local;
  is_local = makes.is_local;
  whole = makes.own ∙ mine-append p history rest;
}

pub within_next : (c : StepCode) (turns schedule further : List ℕ) (p : ℕ) (history : List Shared) → WentOn c p (slice_index turns p) schedule further history
    → Within c turns schedule → Within c turns further
within_next c turns schedule further p history went within j below =
    ⊎_elim
    (λ same. subst (λ k. occurs k further ≤ slice_index turns k) (sym same) went.within)
    (λ apart. subst (λ k. k ≤ slice_index turns j) (sym (went.others j apart)) (within j below))
    (cases_eq j p)

module _ (c : StepCode) (verified : IsVerified c.sizes c.instructions) (few : c.sizes.processes ≤ 6) (turns : List ℕ) where
  -- through one step
  pub went_through : (schedule : List ℕ) (history : List Shared) (step : Shared) (rest : List Shared) → Stands c schedule history → Within c turns schedule
      → MayFollow c.sizes.processes c.sizes.rows (memory_of c.sizes.processes c.sizes.rows history) step
      → MakesIts c step.process (slice_index turns step.process) (history ++ step ∷ rest)
      → WentOn c step.process (slice_index turns step.process) schedule (led c turns schedule step.process) (history ++ step ∷ [])
  went_through schedule history step rest stands within follows makes =
      let p : ℕ = step.process in
      let there = is_there c verified schedule p follows.0 in
      let own : mine p (step ∷ rest) ≡ step ∷ mine p rest = mine-append p (step ∷ []) rest ∙ ap (λ xs. xs ++ mine p rest) (mine-snoc_own p [] step refl) in
      let comes : ComesTo c p (slice_index turns p) (mine p history) (step ∷ mine p rest) =
      subst (ComesTo c p (slice_index turns p) (mine p history)) own (comes_to c p (slice_index turns p) history (step ∷ rest) makes) in
      subst (λ o. WentOn c p (slice_index turns p) schedule (schedule ++ (replicate (alone_of c p (turns_left turns schedule p) o) p ++ p ∷ [])) (history ++ step ∷ []))
      (sym there.1)
      (leads c verified few p (slice_index turns p) (turns_left turns schedule p) schedule history there.0 step (mine p rest) follows.0 stands there.1
      (omega (arith, within p follows.0)) refl follows comes)

  -- through the rest of a history
  goes_through : (rest : List Shared) (schedule : List ℕ) (history : List Shared) → Stands c schedule history → Within c turns schedule
      → IsLegal c.sizes.processes c.sizes.rows (history ++ rest) → AllMake c turns (history ++ rest)
      → Stands c (through c turns schedule rest) (history ++ rest) × Within c turns (through c turns schedule rest)
  goes_through [] schedule history stands within legal makes = (subst (Stands c schedule) (sym (append-nil history)) stands, within)
  goes_through (step ∷ rest) schedule history stands within legal makes =
      let n : ℕ = c.sizes.processes in
      let longer : (history ++ step ∷ []) ++ rest ≡ history ++ (step ∷ rest) = one_then history step rest in
      let front = beginning n c.sizes.rows (history ++ step ∷ []) rest (subst (IsLegal n c.sizes.rows) (sym longer) legal) in
      let follows = ((next_step n c.sizes.rows history step).0 front).1 in
      let went = went_through schedule history step rest stands within follows (makes step.process follows.0) in
      let whole = goes_through rest (led c turns schedule step.process) (history ++ step ∷ []) went.stands
      (within_next c turns schedule (led c turns schedule step.process) step.process (history ++ step ∷ []) went within)
      (subst (IsLegal n c.sizes.rows) (sym longer) legal) (subst (AllMake c turns) (sym longer) makes) in
      (subst (Stands c (through c turns schedule (step ∷ rest))) longer whole.0, whole.1)

-- The first `k` processes made what was left to them, and the others nothing.
pub record Spent (c : StepCode) (turns schedule further : List ℕ) (history : List Shared) (k : ℕ) : Type 0 where
  pub stands : Stands c further history
  pub made : (p : ℕ) → p < k → occurs p further ≡ slice_index turns p
  pub others : (p : ℕ) → k ≤ p → occurs p further ≡ occurs p schedule

module _ (c : StepCode) (verified : IsVerified c.sizes c.instructions) (few : c.sizes.processes ≤ 6) (turns schedule : List ℕ) (history : List Shared)
    (stands : Stands c schedule history) (within : Within c turns schedule) where
  none_spent : Spent c turns schedule (spent turns schedule 0) history 0
  none_spent = record { stands = stands; made = λ p below. absurd (omega (arith, below)); others = λ p past. refl }

  -- one process more
  pub one_spent : (k : ℕ) → k < c.sizes.processes → Spent c turns schedule (spent turns schedule k) history k → MakesIts c k (slice_index turns k) history
      → Spent c turns schedule (spent turns schedule (suc k)) history (suc k)
  one_spent k below before makes =
      let front : List ℕ = spent turns schedule k in
      let rest : ℕ = turns_left turns schedule k in
      let there = is_there c verified front k below in
      let made_already : occurs k front ≡ occurs k schedule = before.others k (omega arith) in
      let comes : ComesTo c k (slice_index turns k) (mine k history) [] =
      comes_to c k (slice_index turns k) history [] (subst (MakesIts c k (slice_index turns k)) (sym (append-nil history)) makes) in
      let went = spends c verified few k (slice_index turns k) rest front history there.0 below before.stands there.1
      (omega (arith, made_already, within k below)) comes in
      record {
        stands = went.stands;
        made = λ p under.
            ⊎_elim
            (λ same. subst (λ j. occurs j (front ++ replicate rest k) ≡ slice_index turns j) (sym same)
            (occurs-repeated k front rest ∙ omega (arith, made_already, within k below)))
            (λ apart. went.others p apart ∙ before.made p (omega (arith, under, apart)))
            (cases_eq p k);
        others = λ p past. went.others p (λ same. omega (arith, past, same)) ∙ before.others p (omega (arith, past));
      }

  spends_all : (k : ℕ) → k ≤ c.sizes.processes → AllMake c turns history → Spent c turns schedule (spent turns schedule k) history k
  spends_all zero few_enough makes = none_spent
  spends_all (suc k) few_enough makes =
      one_spent k (omega (arith, few_enough)) (spends_all k (omega (arith, few_enough)) makes) (makes k (omega (arith, few_enough)))

-- what stands so is merged
pub is_merged : (c : StepCode) → c.sizes.processes ≤ 6 → (turns schedule further : List ℕ) (history : List Shared)
    → Spent c turns schedule further history c.sizes.processes → IsVerified c.sizes c.instructions → IsMerged c turns history further
is_merged c few turns schedule further history whole verified = record {
  run = whole.stands.run;
  turns_made = whole.made;
  shared = whole.stands.shared;
  memory = whole.stands.memory;
  each = λ p l below local own.
      let there = is_there c verified further p below in
      let at = whole.stands.each p there.0 there.1 in
      let same : at.local ≡ l =
      once_per_answers c few p (slice_index turns p) at.local l [] []
      (subst (λ k. IsLocalRun c p k at.local) (whole.made p below) at.is_local) local
      (ap (λ xs. xs ++ []) (at.own ∙ sym own)) in
      record {
        process = there.1 ∙ ap Some (sym at.process ∙ ap (λ (x : Local). x.process) same);
        events = sym at.gave ∙ ap (λ (x : Local). x.events) same;
      };
}

pub merge_law : MergeLaw
merge_law c turns history verified few legal makes =
    let gone = goes_through c verified few turns history [] [] (stands_start c) (λ p below. omega arith) legal makes in
    is_merged c few turns (through c turns [] history) (merged c turns history) history
    (spends_all c verified few turns (through c turns [] history) history gone.0 gone.1 c.sizes.processes (omega arith) makes) verified
