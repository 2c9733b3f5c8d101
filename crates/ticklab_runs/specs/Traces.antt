-- What `trace` answers: a line or an object for each step of a run of a program, or of its code.
use Rattle.std.specs.Prelude.{◌≡◌, ◌++◌, ℕ, Bool, true, false, List, drop, take, Option, Some, None}
use Rattle.base.specs.Plain.{Name, WholeProgram}
use Rattle.tick_kinds.specs.Resolution.{resolved}
use Rattle.tick_syntax.specs.Spelling.{Spells}
use Rattle.tick_syntax.specs.declared.token.Token.{Token}
use Rattle.ticklab_explain.specs.Questions.{IsPointed}
use Rattle.ticklab_json.specs.Steps.{instruction_objects, statement_objects}
use Rattle.ticklab_trace.specs.declared.parts.Parts.{Parts}
use Rattle.ticklab_trace.specs.declared.steps.InstructionStep.{InstructionStep}
use Rattle.ticklab_trace.specs.declared.steps.StatementStep.{StatementStep}
use Rattle.ticklab_trace.specs.Places.{Standing, standings}
use Rattle.ticklab_trace.specs.StatementSteps.{AreStatementSteps}
use Rattle.ticklab_trace.specs.FoldedText.{folded_instructions, folded_statements}
use Rattle.ticklab_trace.specs.TraceText.{instruction_lines, statement_lines}
use Rattle.ticklab_files.specs.declared.form.Form.{Form}
use Rattle.ticklab_files.specs.declared.form.Form.TheVariants.{Text, Json}
use Rattle.ticklab_runs.specs.Breaking.{BrokenAt}
use Rattle.ticklab_runs.specs.Lines.{broken_text}
use Rattle.ticklab_runs.specs.Objects.{AreBrokenObjects}
use Rattle.ticklab_runs.specs.declared.told_run.Tracing.{Tracing}

-- These are the lines of the steps of the program that the input is.
pub record IsStatementTrace (input : List ℕ) (a : WholeProgram Name) (schedule out : List ℕ) : Type 0 where
  pub tokens : List Token
  pub spelled : Spells input tokens
  pub steps : List StatementStep
  pub are_steps : AreStatementSteps (resolved a) schedule steps
  pub told : out ≡ statement_lines a (standings input tokens a) None 0 steps

-- The lines of steps of a program, the first of which stands behind so many others. Private steps may be folded.
abbrev pub lines_told : Bool → WholeProgram Name → List Standing → Option Parts → ℕ → List StatementStep → List ℕ
lines_told false = statement_lines
lines_told true = folded_statements

-- The lines of these steps of a program, whose statements stand there, and which have these parts; and after the step after
-- which a line is broken, that line, and what it comes to.
pub record AreBrokenLines (is_folded : Bool) (found : BrokenAt) (a : WholeProgram Name) (spots : List Standing) (parts : Option Parts) (steps : List StatementStep) (out : List ℕ) : Type 0 where
  pub pointed : List ℕ
  pub is_pointed : IsPointed found.place.name found.place.text found.place.span (broken_text found.broken.value) pointed
  pub lines : out ≡ lines_told is_folded a spots parts 0 (take found.broken.steps steps) ++ pointed
      ++ lines_told is_folded a spots parts found.broken.steps (drop found.broken.steps steps)

-- in each form; where only what others see is asked for, lines fold private steps, and objects tell them
abbrev pub AreToldIn : Form → Bool → BrokenAt → WholeProgram Name → List Standing → Option Parts → List StatementStep → List ℕ → Type 0
AreToldIn Text = AreBrokenLines
AreToldIn Json = AreBrokenObjects

abbrev pub AreToldWith : Tracing → BrokenAt → WholeProgram Name → List Standing → Option Parts → List StatementStep → List ℕ → Type 0
AreToldWith tracing = AreToldIn tracing.form tracing.is_shared

abbrev pub told_in : Form → Bool → WholeProgram Name → List Standing → Option Parts → List StatementStep → List ℕ
told_in Text is_shared a spots parts steps = lines_told is_shared a spots parts 0 steps
told_in Json is_shared a spots parts steps = statement_objects a spots parts is_shared None steps

abbrev pub statements_told : Tracing → WholeProgram Name → List Standing → Option Parts → List StatementStep → List ℕ
statements_told tracing = told_in tracing.form tracing.is_shared

-- with the line that is broken first, where one is
abbrev pub AreTold : Tracing → Option BrokenAt → WholeProgram Name → List Standing → Option Parts → List StatementStep → List ℕ → Type 0
AreTold tracing None a spots parts steps out = out ≡ statements_told tracing a spots parts steps
AreTold tracing (Some found) a spots parts steps out = AreToldWith tracing found a spots parts steps out

-- What is told of these steps of the program that the input is, which have these parts.
abbrev pub IsTraceOf : Tracing → List ℕ → WholeProgram Name → Option Parts → List StatementStep → Option BrokenAt → List ℕ → Type 0
IsTraceOf tracing input a parts steps broken out =
    (tokens : List Token) × Spells input tokens × AreTold tracing broken a (standings input tokens a) parts steps out

-- The same of its code.
abbrev pub code_lines : Bool → WholeProgram Name → List InstructionStep → List ℕ
code_lines false a steps = instruction_lines a 0 steps
code_lines true a steps = folded_instructions a steps

abbrev pub code_told_in : Form → Bool → WholeProgram Name → List InstructionStep → List ℕ
code_told_in Text is_shared a steps = code_lines is_shared a steps
code_told_in Json is_shared a steps = instruction_objects a is_shared steps

abbrev pub instructions_told : Tracing → WholeProgram Name → List InstructionStep → List ℕ
instructions_told tracing = code_told_in tracing.form tracing.is_shared
