-- The steps of the first items of a schedule.
use Rattle.std.specs.Prelude.{◌≡◌, ℕ, List, [], length, map, take, slice_get, slice_index, Some}
use Rattle.base.specs.Plain.{WholeProgram}
use Rattle.tick_source.specs.Source.{source, source_step}
use Rattle.code_core.specs.Instructions.{StepCode}
use Rattle.code_machine.specs.Machine.{code_step, run_of}
use Rattle.ticklab_trace.specs.declared.steps.StatementStep.{StatementStep}
use Rattle.ticklab_trace.specs.declared.steps.InstructionStep.{InstructionStep}
use Rattle.ticklab_trace.specs.StatementSteps as S
use Rattle.ticklab_trace.specs.InstructionSteps as I

pub record Statements (a : WholeProgram ℕ) (schedule : List ℕ) (i : ℕ) (steps : List StatementStep) : Type 0 where
  pub count : length steps ≡ i
  pub each : (k : ℕ) (step : StatementStep) → slice_get steps k ≡ Some step
      → S.IsStatementStep a.body (slice_index schedule k) (source a (take k schedule)) (source_step a.processes (slice_index schedule k) (source a (take k schedule))) step
  pub processes : map (λ step. step.process) steps ≡ take i schedule
  pub events : S.events_after [] steps ≡ (source a (take i schedule)).events

pub record Instructions (c : StepCode) (schedule : List ℕ) (i : ℕ) (steps : List InstructionStep) : Type 0 where
  pub count : length steps ≡ i
  pub each : (k : ℕ) (step : InstructionStep) → slice_get steps k ≡ Some step
      → I.IsInstructionStep c.instructions (slice_index schedule k) (run_of c.sizes c.instructions (take k schedule))
      (code_step c.sizes.processes c.instructions (slice_index schedule k) (run_of c.sizes c.instructions (take k schedule))) step
