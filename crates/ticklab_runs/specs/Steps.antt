-- A run: what each of its steps does, and of a program the line that first is broken.
use Rattle.std.specs.Prelude.{List, ℕ, Option}
use Rattle.base.specs.Plain.{Name, WholeProgram}
use Rattle.tick_kinds.specs.Resolution.{resolved}
use Rattle.language_properties.specs.Properties.{Formula}
use Rattle.ticklab_trace.specs.declared.steps.InstructionStep.{InstructionStep}
use Rattle.ticklab_trace.specs.declared.steps.StatementStep.{StatementStep}
use Rattle.ticklab_trace.specs.InstructionSteps.{AreInstructionSteps}
use Rattle.ticklab_trace.specs.StatementSteps.{AreStatementSteps}
use Rattle.ticklab_files.specs.Asking.{TextPlace}
use Rattle.ticklab_files.specs.Codes.{HasCode, program_code}
use Rattle.ticklab_runs.specs.Breaking.{BrokenAt, IsFirstAt}

-- A run of the program under a schedule, and the first of these lines to be broken, which stand here.
pub record ProgramRun (a : WholeProgram Name) (lines : List Formula) (places : List TextPlace) (schedule : List ℕ) : Type 0 where
  pub steps : List StatementStep
  pub are_steps : AreStatementSteps (resolved a) schedule steps
  pub broken : Option BrokenAt
  pub is_first : IsFirstAt (resolved a) lines places schedule broken

-- A run of its code, of which no line is asked.
pub record CodeRun (a : WholeProgram Name) (schedule : List ℕ) : Type 0 where
  pub has_code : HasCode a
  pub steps : List InstructionStep
  pub are_steps : AreInstructionSteps (program_code a) schedule steps
