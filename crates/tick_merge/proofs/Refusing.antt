-- A process that can't go on as a history tells.
use Rattle.std.proofs.Common.{◌≡◌, ⊎_elim, ℕ, ◌+◌, ◌<◌, ◌≤◌, List, [], ◌∷◌, ◌++◌, length, refl, ap, sym, subst, ◌∙◌, append_assoc, arith}
use Rattle.std.specs.Prelude.{slice_get, Some}
use Rattle.std.proofs.lemmas.Bool.{cases_lt}
use Rattle.std.proofs.lemmas.List.{append-nil, append_cancel_left, length-append}
use Rattle.base.specs.declared.event.Event.{Event}
use Rattle.base.specs.declared.status.Status.TheVariants.{Running}
use Rattle.word_core.specs.History.{Memory, memory_of, MayFollow}
use Rattle.word_core.specs.declared.history.Shared.{Shared}
use Rattle.code_core.specs.Instructions.{StepCode}
use Rattle.code_core.specs.Verified.{IsVerified}
use Rattle.code_machine.specs.Machine.{CodeProcess, CodeStep, alone, asks, did}
use Rattle.stamp_table.specs.Passes.{by, mine}
use Rattle.stamp_table.proofs.Offered.{mine-snoc_own}
use Rattle.tick_merge.specs.Local.{Local, Makes}
use Rattle.tick_merge.proofs.OneProcess.{once_per_answers, came_by}
use Rattle.tick_merge.specs.Ran.{run_under, act_by, occurs, events_by}
use Rattle.tick_merge.specs.Laws.{MakesIts}
use Rattle.tick_merge.specs.Refusals.{MakesWithin}
use Rattle.tick_merge.specs.prover.Standing.{StandsAt, Stands}
use Rattle.tick_merge.specs.prover.Held.{act_next}
use Rattle.tick_merge.specs.prover.Reached.{IsQuiet}
use Rattle.tick_merge.proofs.Going.{ComesTo, goes_on, is_next}
use Rattle.tick_merge.proofs.Whole.{comes_to}

module _ (c : StepCode) (few : c.sizes.processes ≤ 6) (p : ℕ) (history : List Shared) (step : Shared) (whose : step.process ≡ p) where
  -- with a step more it makes more instructions
  further_on : (k count : ℕ) (q : CodeProcess) (events : List Event) → StandsAt c p k q (mine p history) events → MakesIts c p count (history ++ step ∷ []) → k < count
  further_on k count q events at makes =
      ⊎_elim
      (λ less. less)
      (λ enough.
      let came = came_by c p k count at.local enough at.is_local in
      let own : makes.local.steps ≡ mine p history ++ step ∷ [] = makes.own ∙ mine-snoc_own p history step whose in
      let before : mine p history ≡ came.local.steps ++ came.later = sym at.own ∙ came.steps in
      let same : makes.local ≡ came.local =
      once_per_answers c few p count makes.local came.local [] (came.later ++ step ∷ []) makes.is_local came.is_local
      (append-nil makes.local.steps ∙ own ∙ ap (λ xs. xs ++ step ∷ []) before ∙ append_assoc came.local.steps came.later (step ∷ [])) in
      let longer : mine p history ≡ (mine p history ++ step ∷ []) ++ came.later =
      before ∙ ap (λ xs. xs ++ came.later) (ap (λ (l : Local). l.steps) (sym same) ∙ own) in
      let lengths : length (mine p history) ≡ length ((mine p history ++ step ∷ []) ++ came.later) = ap length longer in
      absurd (omega (arith, lengths, length-append (mine p history ++ step ∷ []) came.later, length-append (mine p history) (step ∷ []))))
      (cases_lt k count)

  -- what a process that comes to the step makes next is the step
  module _ (verified : IsVerified c.sizes c.instructions) (schedule : List ℕ) (stands : Stands c schedule history) (q : CodeProcess)
      (there : slice_get (run_under c schedule).processes p ≡ Some q)
      (follows : MayFollow c.sizes.processes c.sizes.rows (memory_of c.sizes.processes c.sizes.rows history) step) where
    makes_next : (count : ℕ) → MakesIts c p count (history ++ step ∷ []) → IsQuiet c p q
        → act_next q.status (memory_of c.sizes.processes c.sizes.rows history) (did c.sizes.processes p c.instructions q) ≡ Some step.act
    makes_next count makes quiet =
        let n : ℕ = c.sizes.processes in
        let at = stands.each p q there in
        let less = further_on (occurs p schedule) count q (events_by p (run_under c schedule).events) at makes in
        let comes : ComesTo c p count (mine p history) (mine p (step ∷ [])) = comes_to c p count history (step ∷ []) makes in
        let own : mine p (step ∷ []) ≡ step ∷ [] = mine-snoc_own p [] step whose in
        let on = goes_on c few p count (occurs p schedule) q (mine p history) (step ∷ []) (events_by p (run_under c schedule).events)
        (subst (ComesTo c p count (mine p history)) own comes) at less in
        let m : Memory = memory_of n c.sizes.rows history in
        let case : (d : CodeStep) → did n p c.instructions q ≡ d → Makes n p at.local d on.next → act_next Running m d ≡ Some step.act =
        λ d is made. elim d as (λ d. did n p c.instructions q ≡ d → Makes n p at.local d on.next → act_next Running m d ≡ Some step.act) [
          | alone moved ↦ λ is made. absurd (quiet moved on.running is)
          | asks ask answered ↦ λ is made.
              let same = is_next c verified few p count schedule history q step [] stands there whose follows ask answered is at.local on.next on.more made on.steps in
              sym (ap (λ (s : Shared). Some s.act) same ∙ ap (λ k. Some (act_by k ask)) stands.memory)
        ] is made
        in
        ap (λ s. act_next s m (did n p c.instructions q)) on.running ∙ case (did n p c.instructions q) refl on.makes

    -- so there is no way where it has no instruction left, or makes another
    pub no_way : (turns left : ℕ) → occurs p schedule + left ≡ turns → (0 < left → IsQuiet c p q)
        → (0 < left → act_next q.status (memory_of c.sizes.processes c.sizes.rows history) (did c.sizes.processes p c.instructions q) ≡ Some step.act → ⊥)
        → ¬ MakesWithin c p turns (history ++ step ∷ [])
    no_way turns left counts quiet other makes =
        let less = further_on (occurs p schedule) makes.count q (events_by p (run_under c schedule).events) (stands.each p q there) makes.makes in
        let more : 0 < left = omega (arith, counts, less, makes.few) in
        other more (makes_next makes.count makes.makes (quiet more))

-- a process that stops or asks doesn't make instructions that are left without a step
pub no_rest : (c : StepCode) (few : c.sizes.processes ≤ 6) (p turns left : ℕ) (schedule : List ℕ) (history : List Shared) (stands : Stands c schedule history) (q : CodeProcess)
    → slice_get (run_under c schedule).processes p ≡ Some q → occurs p schedule + left ≡ turns → 0 < left → IsQuiet c p q → ¬ MakesIts c p turns history
no_rest c few p turns left schedule history stands q there counts more quiet makes =
    let n : ℕ = c.sizes.processes in
    let at = stands.each p q there in
    let comes : ComesTo c p turns (mine p history) [] = comes_to c p turns history [] (subst (MakesIts c p turns) (sym (append-nil history)) makes) in
    let on = goes_on c few p turns (occurs p schedule) q (mine p history) [] (events_by p (run_under c schedule).events) comes at (omega (arith, counts, more)) in
    let case : (d : CodeStep) → did n p c.instructions q ≡ d → Makes n p at.local d on.next → ⊥ =
    λ d is made. elim d as (λ d. did n p c.instructions q ≡ d → Makes n p at.local d on.next → ⊥) [
      | alone moved ↦ λ is made. quiet moved on.running is
      | asks ask answered ↦ λ is made. no_more at.local on.more (by p made.act)
          (on.steps ∙ ap (λ (l : Local). l.steps ++ on.more) made.makes ∙ append_assoc at.local.steps (by p made.act ∷ []) on.more)
    ] is made
    in
    case (did n p c.instructions q) refl on.makes
  where
    no_more : (at : Local) (more : List Shared) (s : Shared) → at.steps ++ [] ≡ at.steps ++ (s ∷ more) → ⊥
    no_more at more s steps = let none : [] ≡ s ∷ more = append_cancel_left at.steps [] (s ∷ more) steps in cc
