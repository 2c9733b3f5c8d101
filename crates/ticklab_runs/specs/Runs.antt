-- What `trace`, `draw` and `page` answer: a trace as text or as JSON, a picture or a page of the run of a program, or of its
-- code, under a schedule.
use Rattle.std.specs.Prelude.{◌≡◌, ◌≤◌, ◌<◌, ◌++◌, ⊤, ℕ, Bool, true, false, List, length, option_map, take, Option, None}
use Rattle.std.specs.Borrow.{Bor}
use Rattle.base.specs.Plain.{Name, WholeProgram}
use Rattle.language_properties.specs.Properties.{Formula}
use Rattle.tick_sim.specs.Maps.{lifted}
use Rattle.ticklab_line.specs.Commands.{plain_drawing, plain_paging}
use Rattle.ticklab_line.specs.declared.commands.AskedRun.{AskedRun}
use Rattle.ticklab_line.specs.declared.commands.Side.{Side}
use Rattle.ticklab_line.specs.declared.commands.Side.TheVariants.{Program, Code, Lifted}
use Rattle.ticklab_files.specs.Asking.{AsksNever, IsFileRefused, IsProgramFile, TellsOption, TextPlace, lines_in, places_by}
use Rattle.ticklab_files.specs.Codes.{IsCodeless, program_code}
use Rattle.ticklab_files.specs.Reading.{AfterTexts, ReadsOf, ReadsInputOf}
use Rattle.ticklab_files.specs.Responses.{Gives, Refuses}
use Rattle.ticklab_files.specs.Ways.{AreMisspelled, AreSpelled, AreSteps, Texts}
use Rattle.ticklab_files.specs.declared.response.Response.{Response}
use Rattle.ticklab_draw.specs.Marks.{instruction_marks, statement_marks}
use Rattle.ticklab_page.specs.Pages.{code_page}
use Rattle.ticklab_trace.specs.declared.parts.Parts.{Parts}
use Rattle.ticklab_trace.specs.declared.steps.InstructionStep.{InstructionStep}
use Rattle.ticklab_trace.specs.declared.steps.StatementStep.{StatementStep}
use Rattle.ticklab_runs.specs.Breaking.{BrokenAt, mark_of}
use Rattle.ticklab_runs.specs.Lines.{long_run_line}
use Rattle.ticklab_runs.specs.Pages.{IsPageOf, page_look}
use Rattle.ticklab_runs.specs.Parts.{parts_of}
use Rattle.ticklab_runs.specs.Pictures.{look_of, picture_of, title_of}
use Rattle.ticklab_runs.specs.Steps.{CodeRun, ProgramRun}
use Rattle.ticklab_runs.specs.Traces.{IsTraceOf, instructions_told}
pub use Rattle.ticklab_runs.specs.Traces.{IsStatementTrace}
use Rattle.ticklab_runs.specs.declared.told_run.Telling.{Telling}
use Rattle.ticklab_runs.specs.declared.told_run.Telling.TheVariants.{Trace, Picture, Page}

-- the schedule under which it runs, where this one is given
abbrev pub schedule_on : Side → WholeProgram Name → List ℕ → List ℕ
schedule_on Program a given = given
schedule_on Code a given = given
schedule_on Lifted a given = lifted (program_code a).sizes (program_code a).instructions given

abbrev pub is_of_code : Side → Bool
is_of_code Program = false
is_of_code Code = true
is_of_code Lifted = true

-- a page has at most so many steps; what else is told of a run has any number
abbrev pub IsWithin : Telling (List ℕ) → ℕ → Type 0
IsWithin (Page paging) count = count ≤ 20000
IsWithin telling count = ⊤

abbrev pub IsTooLong : Telling (List ℕ) → List ℕ → ℕ → List ℕ → Type 0
IsTooLong (Page paging) from count report = (20000 < count) × (report ≡ long_run_line from count)
IsTooLong telling from count report = ⊥

-- The report of a run of which nothing is told: of the file, these texts of a command line, the way, the code, or how long
-- the run is.
pub data IsUnrun (telling : Telling (List ℕ)) (name : List ℕ) (texts : List (List ℕ)) (input from : List ℕ) (given : Texts) (side : Side) (report : List ℕ) : Type 0 where
  file_refused : IsFileRefused name input report → IsUnrun telling name texts input from given side report
  option_refused : (is : IsProgramFile input) → TellsOption is.program (lines_in is.asked) texts report → IsUnrun telling name texts input from given side report
  way_refused : (is : IsProgramFile input) → AreMisspelled is.program.processes from given report
      → IsUnrun telling name texts input from given side report
  code_refused : (is : IsProgramFile input) (steps : List ℕ) → AreSteps is.program.processes given steps
      → IsCodeless (is_of_code side) name is.program report → IsUnrun telling name texts input from given side report
  too_long : (is : IsProgramFile input) (steps : List ℕ) → AreSteps is.program.processes given steps
      → IsTooLong telling from (length (schedule_on side is.program steps)) report → IsUnrun telling name texts input from given side report

-- what is told of a run of the program of an input, with what must never hold of it, and the parts of all steps
abbrev pub Told : List (List ℕ) → List ℕ → Type 1
Told texts input = AsksNever texts input → Option Parts → List ℕ → List ℕ → Type 0

-- Of the run of the program that the input is, or of its code, under all steps that these texts spell, this is told.
pub record IsRun {texts : List (List ℕ)} {input : List ℕ} (side : Side) (P : Told texts input) (given : Texts) (out : List ℕ) : Type 0 where
  pub asks : AsksNever texts input
  pub schedule : List ℕ
  pub lead_in : List ℕ
  pub cycle : List ℕ
  pub spelled : AreSpelled asks.file.program.processes given schedule lead_in cycle
  pub told :
      P asks (parts_of (length schedule) (length cycle) (length (schedule ++ lead_in ++ cycle)))
      (schedule_on side asks.file.program (schedule ++ lead_in ++ cycle)) out

pub data AnswersRun {texts : List (List ℕ)} {input : List ℕ} (telling : Telling (List ℕ)) (side : Side) (P : Told texts input) (name from : List ℕ) (given : Texts) (response : Response) : Type 0 where
  run : Gives 0 (IsRun side P given) response → AnswersRun telling side P name from given response
  unrun : Refuses 1 (IsUnrun telling name texts input from given side) response → AnswersRun telling side P name from given response

-- texts that are lent, as the texts themselves
abbrev pub plain_telling : Telling (Bor (List ℕ)) → Telling (List ℕ)
plain_telling (Trace tracing) = Trace tracing
plain_telling (Picture drawing) = Picture (plain_drawing drawing)
plain_telling (Page paging) = Page (plain_paging paging)

-- What is told of a run of the program that the input is, which has these parts, and whose lines stand here.
abbrev pub IsToldOf : Telling (List ℕ) → List ℕ → List TextPlace → List ℕ → WholeProgram Name → Option Parts → List StatementStep → Option BrokenAt → List ℕ → Type 0
IsToldOf (Trace tracing) name places input a parts steps broken out = IsTraceOf tracing input a parts steps broken out
IsToldOf (Picture drawing) name places input a parts steps broken out =
    out ≡ picture_of a (title_of drawing.title name) (look_of drawing) parts (statement_marks steps) (option_map (mark_of (length places)) broken)
IsToldOf (Page paging) name places input a parts steps broken out =
    IsPageOf (title_of paging.title name) paging.is_shared input a parts steps (statement_marks steps) (option_map (mark_of (length places)) broken) out

abbrev pub IsProgramTold : Telling (List ℕ) → List ℕ → List Formula → List TextPlace → List ℕ → WholeProgram Name → Option Parts → List ℕ → List ℕ → Type 0
IsProgramTold telling name lines places input a parts schedule out =
    (run : ProgramRun a lines places schedule) × IsToldOf telling name places input a parts run.steps run.broken out

-- The same of its code, which goes round only with other labels, and so is told without parts.
abbrev pub code_text : Telling (List ℕ) → List ℕ → WholeProgram Name → List InstructionStep → List ℕ
code_text (Trace tracing) name a steps = instructions_told tracing a steps
code_text (Picture drawing) name a steps = picture_of a (title_of drawing.title name) (look_of drawing) None (instruction_marks steps) None
code_text (Page paging) name a steps =
    code_page (title_of paging.title name) paging.is_shared a (program_code a) steps
    (picture_of a (title_of paging.title name) (page_look paging.is_shared) None (instruction_marks steps) None)

abbrev pub IsCodeTold : Telling (List ℕ) → List ℕ → WholeProgram Name → List ℕ → List ℕ → Type 0
IsCodeTold telling name a schedule out = (run : CodeRun a schedule) × (out ≡ code_text telling name a run.steps)

-- a picture is of the steps up to the last that it shows
abbrev pub steps_told : Telling (List ℕ) → List ℕ → List ℕ
steps_told (Picture drawing) schedule = take drawing.to schedule
steps_told telling schedule = schedule

abbrev pub IsToldWith : Telling (List ℕ) → Bool → List ℕ → List Formula → List TextPlace → List ℕ → WholeProgram Name → Option Parts → List ℕ → List ℕ → Type 0
IsToldWith telling true name lines places input a parts schedule out = IsCodeTold telling name a (steps_told telling schedule) out
IsToldWith telling false name lines places input a parts schedule out = IsProgramTold telling name lines places input a parts (steps_told telling schedule) out

abbrev pub IsTold : Telling (List ℕ) → Side → (name : List ℕ) (texts : List (List ℕ)) (input : List ℕ) → Told texts input
IsTold telling side name texts input asks =
    λ parts schedule out. IsWithin telling (length schedule)
    × IsToldWith telling (is_of_code side) name asks.lines (places_by name input asks.file.asked texts) input asks.file.program parts schedule out

abbrev pub TellsRun : {F : Type 0} → Telling (List ℕ) → ReadsOf F → ReadsInputOf F → F → F → AskedRun (List ℕ) (List (List ℕ)) → Response → Type 0
TellsRun telling Reads ReadsInput before after asked response =
    AfterTexts Reads ReadsInput before after asked.file asked.schedule
    (λ input from given. AnswersRun telling asked.side (IsTold telling asked.side asked.file asked.never input) asked.file from given response)
