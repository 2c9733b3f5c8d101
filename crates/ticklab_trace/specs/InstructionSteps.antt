-- What each step of a code does.
use Rattle.std.specs.Prelude.{◌≡◌, ℕ, List, length, take, slice_get, slice_index, Option, Some, None}
use Rattle.base.specs.declared.event.Act.{Act}
use Rattle.base.specs.Observables.{told}
use Rattle.code_core.specs.declared.instr.Instr.{Instr}
use Rattle.code_core.specs.declared.instr.Instr.TheVariants as I
use Rattle.code_core.specs.Instructions.{StepCode}
use Rattle.code_machine.specs.Machine.{CodeState, places_of, next_instruction, code_step, run_of}
use Rattle.ticklab_trace.specs.declared.steps.InstructionStep.{InstructionStep}
use Rattle.ticklab_trace.specs.Shown.{shown}

-- an exchange of which others see no stamp was lost to these labels
abbrev pub lost_to : {X : Type 0} → Option Instr → Option Act → X → Option X
lost_to (Some (I.Exchange l)) None labels = Some labels
lost_to _ _ labels = None

-- What the step of process `p` from one state to the next is told as. A process that had stopped makes no
-- instruction; its place is that of its last.
pub record IsInstructionStep (code : List Instr) (p : ℕ) (before after : CodeState) (step : InstructionStep) : Type 0 where
  pub process : step.process ≡ p
  pub place : slice_get (places_of before) p ≡ Some step.place
  pub instruction : step.instruction ≡ next_instruction code p before
  -- what others see of it, where they see something
  pub act : after.events ≡ told p step.act before.events
  pub lost : step.lost ≡ lost_to step.instruction step.act after.labels
  -- the labels that it leaves, where it is a stamp or a clear
  pub labels : step.labels ≡ shown step.act after.labels

-- Step `k` is that of the `k`th process of the schedule, where those before it have stepped.
pub record AreInstructionSteps (c : StepCode) (schedule : List ℕ) (steps : List InstructionStep) : Type 0 where
  pub count : length steps ≡ length schedule
  pub each : (k : ℕ) (step : InstructionStep) → slice_get steps k ≡ Some step
      → IsInstructionStep c.instructions (slice_index schedule k) (run_of c.sizes c.instructions (take k schedule))
      (code_step c.sizes.processes c.instructions (slice_index schedule k) (run_of c.sizes c.instructions (take k schedule))) step
