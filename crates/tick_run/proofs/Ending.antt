-- A worker that makes no further instruction went as far as it was allowed.
use Rattle.std.proofs.Common.{◌≡◌, ℕ, ◌<◌, ◌≤◌, true, List, [], length, refl, ap, sym, ◌∙◌, arith}
use Rattle.std.specs.Prelude.{slice_get}
use Rattle.base.specs.declared.status.Status.{Status}
use Rattle.base.specs.declared.status.Status.TheVariants.{Running, Ended, Trapped}
use Rattle.base.specs.declared.run_outcome.RunEnd.{RunEnd}
use Rattle.base.specs.declared.run_outcome.RunEnd.TheVariants as E
use Rattle.word_core.specs.declared.history.Shared.{Shared}
use Rattle.code_core.specs.Instructions.{StepCode}
use Rattle.code_machine.specs.Machine.{CodeProcess, start_process}
use Rattle.code_machine.specs.Process.{gives_out}
use Rattle.tick_merge.specs.Local.{local_start}
use Rattle.tick_merge.specs.Runs.{EndsAs}
use Rattle.tick_run.specs.prover.Alone.{RanSo}
use Rattle.tick_run.specs.prover.Turns.{IsAt, end_by}

-- before its first instruction
pub at_start : (c : StepCode) (p : ℕ) (q : CodeProcess) (steps : List Shared) (given : List ℕ) → q ≡ start_process c.sizes → steps ≡ [] → given ≡ []
    → IsAt c p 0 q steps given
at_start c p q steps given start unseen empty = record {
  local = local_start c;
  is_local = refl;
  process = sym start;
  own = sym unseen;
  gave = empty;
}

ends_by : (c : StepCode) (q : CodeProcess) (count turns given outs : ℕ) (s : Status) → q.status ≡ s → (s ≡ Running → count ≡ turns)
    → EndsAs (end_by s) c q count turns given outs
ends_by c q count turns given outs Running is spent = (is, spent refl)
ends_by c q count turns given outs Ended is spent = is
ends_by c q count turns given outs (Trapped t) is spent = is

ran : (c : StepCode) (p turns outs count : ℕ) (q : CodeProcess) (steps : List Shared) (given : List ℕ) (end : RunEnd) (at : IsAt c p count q steps given)
    → count ≤ turns → length given ≤ outs → EndsAs end c at.local.process count turns (length given) outs → RanSo c p turns outs steps given end
ran c p turns outs count q steps given end at few_turns few_outputs ends =
    record { count = count; local = at.local; is_local = at.is_local; own = at.own; gave = at.gave; turns_kept = few_turns; outputs_kept = few_outputs; ends_as = ends }

pub ran_out : (c : StepCode) (p turns outs count : ℕ) (q : CodeProcess) (steps : List Shared) (given : List ℕ) → IsAt c p count q steps given
    → count ≤ turns → length given ≤ outs → (q.status ≡ Running → count ≡ turns) → RanSo c p turns outs steps given (end_by q.status)
ran_out c p turns outs count q steps given at few_turns few_outputs spent =
    ran c p turns outs count q steps given (end_by q.status) at few_turns few_outputs
    (ends_by c at.local.process count turns (length given) outs q.status (ap (λ (x : CodeProcess). x.status) at.process) spent)

pub ran_full : (c : StepCode) (p turns outs count : ℕ) (q : CodeProcess) (steps : List Shared) (given : List ℕ) → IsAt c p count q steps given
    → count < turns → length given ≤ outs → outs ≤ length given → gives_out q.status (slice_get c.instructions q.place) ≡ true
    → RanSo c p turns outs steps given E.OutputsFull
ran_full c p turns outs count q steps given at more few full out =
    ran c p turns outs count q steps given E.OutputsFull at (omega (arith, more)) few
    (more, omega (arith, few, full), ap (λ (x : CodeProcess). gives_out x.status (slice_get c.instructions x.place)) at.process ∙ out)
