-- The machine of a code stays in the states of a run, and one that has stopped stays where it is.
use Rattle.std.proofs.Common.{◌≡◌, ℕ, zero, suc, ◌<◌, ⊎_elim, Bool, false, List, [], ◌∷◌, ◌++◌, length, map, refl, ap, sym, ◌∙◌, subst, arith, Some}
use Rattle.std.specs.Prelude.{◌≢◌, slice_get}
use Rattle.std.proofs.lemmas.Option.{same_Some, none-some}
use Rattle.base.specs.declared.status.Status.{Status}
use Rattle.base.specs.declared.status.Status.TheVariants.{Running}
use Rattle.code_core.specs.declared.instr.Instr.{Instr}
use Rattle.code_core.specs.Instructions.{StepCode}
use Rattle.code_core.specs.Verified.{IsVerified}
use Rattle.code_machine.specs.Machine as C
use Rattle.code_machine.specs.Machine.{CodeState, CodeRun}
use Rattle.code_machine.proofs.Offered.{never_stuck_law}
use Rattle.tick_sim.specs.Maps.{commit_as, commit_of, is_commit}
use Rattle.tick_sim.specs.prover.Stepping.{IsReached}
use Rattle.tick_sim.proofs.Match.{HasStopped}
use Rattle.tick_sim.proofs.States.{stopped_step, runs_or_not}
use Rattle.tick_sim.proofs.Lifted.{run_append}

-- what a list of parts tells of the whole
pub told_part : {X Y : Type 0} (f : X → Y) (xs : List X) (k : ℕ) (y : Y) → slice_get (map f xs) k ≡ Some y
    → (x : X) × (slice_get xs k ≡ Some x) × (f x ≡ y)
told_part f [] k y at = absurd (none-some y at)
told_part f (x ∷ xs) zero y at = (x, refl, same_Some (f x) y at)
told_part f (x ∷ xs) (suc k) y at = told_part f xs k y at

pub reached_start : (code : StepCode) (m : CodeRun) → m.code ≡ code → IsVerified code.sizes code.instructions
    → m.state ≡ C.code_start code.sizes → IsReached m
reached_start code m same verified state =
    subst (λ c. IsReached (record m { code = c })) (sym same) (record { verified = verified; schedule = []; state = state })

module _ (m : CodeRun) (reached : IsReached m) where
  abbrev n : ℕ
  n = m.code.sizes.processes

  pub reached_many : length m.state.processes ≡ n
  reached_many =
      ap (λ s. length s.processes) reached.state
      ∙ (never_stuck_law m.code.sizes m.code.instructions reached.verified reached.schedule).safe.many

  pub in_range : (p : ℕ) → p < n → p < length m.state.processes
  in_range p inside = omega (arith, reached_many)

  pub reached_step : (m' : CodeRun) (p : ℕ) → m'.code ≡ m.code
      → m'.state ≡ C.code_step n m.code.instructions p m.state → IsReached m'
  reached_step m' p same_code state = subst (λ c. IsReached (record m' { code = c })) (sym same_code) (record {
    verified = reached.verified;
    schedule = reached.schedule ++ p ∷ [];
    state = state ∙ ap (C.code_step n m.code.instructions p) reached.state
        ∙ sym (run_append n m.code.instructions reached.schedule (p ∷ []) (C.code_start m.code.sizes));
  })

-- The machine has this code, and a step in the words of the one is a step in those of the other.
module _ (code : StepCode) (m : CodeRun) (same : m.code ≡ code) (p : ℕ) where
  pub step_is : (d : CodeState) → d ≡ C.code_step m.code.sizes.processes m.code.instructions p m.state
      → d ≡ C.code_step code.sizes.processes code.instructions p m.state
  step_is d step = step ∙ ap (λ c. C.code_step c.sizes.processes c.instructions p m.state) same

  pub commit_is : (ended : Bool) → ended ≡ is_commit m.code.sizes.processes m.code.instructions p m.state
      → is_commit code.sizes.processes code.instructions p m.state ≡ ended
  commit_is ended is = sym (is ∙ ap (λ c. is_commit c.sizes.processes c.instructions p m.state) same)

module _ (n : ℕ) (code : List Instr) (p : ℕ) (d : CodeState) where
  pub ends_stopped : (status : Status) → slice_get (C.statuses_of d) p ≡ Some status → status ≢ Running
      → (is_commit n code p d ≡ false) × (C.code_step n code p d ≡ d)
  ends_stopped status at_status other =
      let there = told_part (λ q. q.status) d.processes p status at_status in
      let has : HasStopped status = ⊎_elim (λ runs. absurd (other runs)) (λ has. has) (runs_or_not status) in
      let nothing = stopped_step n code p d there.0 status has in (
        ap (commit_of n code p d) there.1 ∙ ap (commit_as n code p d there.0) there.2 ∙ nothing.1,
        ap (C.step_of n code p d) there.1 ∙ ap (C.step_as n code p d there.0) there.2 ∙ nothing.0,
      )
