-- What is kept of a run that is told so.
use Rattle.std.specs.Prelude.{◌≡◌, ℕ, List, [], ◌∷◌, ◌++◌}
use Rattle.base.specs.Plain.{WholeProgram}
use Rattle.code_core.specs.Instructions.{StepCode}
use Rattle.ticklab_draw.specs.Marks.{marks_on, with_instruction, with_statement}
use Rattle.ticklab_draw.specs.declared.mark.Mark.{Mark}
use Rattle.ticklab_trace.specs.InstructionSteps.{AreInstructionSteps}
use Rattle.ticklab_trace.specs.StatementSteps.{AreStatementSteps}
use Rattle.ticklab_trace.specs.declared.steps.InstructionStep.{InstructionStep}
use Rattle.ticklab_trace.specs.declared.steps.StatementStep.{StatementStep}
use Rattle.ticklab_runs.specs.declared.told_run.Telling.{Telling}
use Rattle.ticklab_runs.specs.declared.told_run.Telling.TheVariants.{Trace, Picture, Page}

abbrev pub kept_with : {T X : Type 0} → Telling T → X → List X → List X
kept_with (Picture drawing) step steps = steps
kept_with telling step steps = steps ++ step ∷ []

abbrev pub marked_with : {T X : Type 0} → (ℕ → X → List Mark → List Mark) → Telling T → ℕ → X → List Mark → List Mark
marked_with add (Trace tracing) number step marks = marks
marked_with add telling number step marks = add number step marks

-- the steps themselves, and their marks, which each step adds so
abbrev pub IsKept : {T X : Type 0} → (ℕ → X → List Mark → List Mark) → Telling T → List X → List X → List Mark → Type 0
IsKept add (Trace tracing) steps kept marks = kept ≡ steps
IsKept add (Picture drawing) steps kept marks = marks ≡ marks_on add 1 [] steps
IsKept add (Page paging) steps kept marks = (kept ≡ steps) × (marks ≡ marks_on add 1 [] steps)

-- of the steps of a program under a schedule
abbrev pub AreStatementsKept : {T : Type 0} → WholeProgram ℕ → List ℕ → Telling T → List StatementStep → List Mark → Type 0
AreStatementsKept a schedule telling kept marks =
    (steps : List StatementStep) × AreStatementSteps a schedule steps × IsKept with_statement telling steps kept marks

-- and of a code
abbrev pub AreInstructionsKept : {T : Type 0} → StepCode → List ℕ → Telling T → List InstructionStep → List Mark → Type 0
AreInstructionsKept code schedule telling kept marks =
    (steps : List InstructionStep) × AreInstructionSteps code schedule steps × IsKept with_instruction telling steps kept marks
