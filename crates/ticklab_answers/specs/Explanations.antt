-- What `explain` answers on an input, and on a schedule of it: what is wrong goes to standard output.
use Rattle.std.specs.Prelude.{◌≡◌, ℕ, List, [], ◌∷◌, Ok, Err, Option, Some, None}
use Rattle.base.specs.Plain.{Name, WholeProgram}
use Rattle.language_questions.specs.Lines.{questions_in}
use Rattle.language_schedules.specs.Schedule.{schedule_of}
use Rattle.ticketc_refusals.specs.Refusals.{BeginsCode, IsCode, IsCodeRefused, IsProgramRefused, IsScheduleRefused, ProgramIn}
use Rattle.ticketc_refusals.specs.declared.refusal.Refusal.{Refusal}
use Rattle.ticklab_explain.specs.Explanations.{IsExplanation, IsFaultReport}
use Rattle.ticklab_explain.specs.declared.explanation.Explanation.{Explanation}
use Rattle.ticklab_explain.specs.declared.explanation.InputFault.{InputFault}
use Rattle.ticklab_explain.specs.declared.explanation.InputFault.TheVariants as I
use Rattle.ticklab_json.specs.Explanations.{explanation_data, fine_data}
use Rattle.ticklab_json.specs.Members.{lines}
use Rattle.ticklab_files.specs.Asking.{IsProgramFile}
use Rattle.ticklab_answers.specs.Lines.{both_taken_line, taken_line}
use Rattle.ticklab_files.specs.Reading.{AfterBoth, AfterFile, ReadsOf, ReadsInputOf}
use Rattle.ticklab_files.specs.Responses.{Gives}
use Rattle.ticklab_files.specs.declared.form.Form.{Form}
use Rattle.ticklab_files.specs.declared.form.Form.TheVariants.{Text, Json}
use Rattle.ticklab_files.specs.declared.response.Response.{Response}

-- the input is a code, or the program of a file, of so many processes
pub data HasProcesses (input : List ℕ) (n : ℕ) : Type 0 where
  processes_of_code : BeginsCode input → (is : IsCode input) → n ≡ is.code.sizes.processes → HasProcesses input n
  processes_of_program : (BeginsCode input → ⊥) → (is : IsProgramFile input) → n ≡ is.program.processes → HasProcesses input n

-- a line `#!` of the program's file has this fault
abbrev pub IsLineFault : WholeProgram Name → List ℕ → InputFault → Type 0
IsLineFault a input (I.Refused refusal) = ⊥
IsLineFault a input (I.Question fault) = questions_in a input ≡ Err fault

-- the input is neither
pub data IsFaultOf (input : List ℕ) (fault : InputFault) : Type 0 where
  no_code : (refusal : Refusal) → BeginsCode input → IsCodeRefused input refusal → fault ≡ I.Refused refusal → IsFaultOf input fault
  no_program : (refusal : Refusal) → (BeginsCode input → ⊥) → IsProgramRefused input refusal → fault ≡ I.Refused refusal → IsFaultOf input fault
  no_question : (a : WholeProgram Name) → (BeginsCode input → ⊥) → ProgramIn input a → IsLineFault a input fault → IsFaultOf input fault

-- what is told of a fault, for people or as JSON
abbrev pub TellsFault : Form → ℕ → List ℕ → List ℕ → InputFault → List ℕ → Type 0
TellsFault Text processes name text fault out = IsFaultReport processes name text fault out
TellsFault Json processes name text fault out =
    (e : Explanation) × IsExplanation processes text fault e × (out ≡ lines (explanation_data name e ∷ []))

-- that nothing is wrong, which this line says for people
abbrev pub fine_in : Form → List ℕ → List ℕ → List ℕ
fine_in Text name line = line
fine_in Json name line = lines (fine_data name ∷ [])

pub data ExplainsInput (name input : List ℕ) (form : Form) (response : Response) : Type 0 where
  taken : (n : ℕ) → HasProcesses input n → Gives 0 (λ out. out ≡ fine_in form name (taken_line name)) response → ExplainsInput name input form response
  explained : (fault : InputFault) → IsFaultOf input fault → Gives 1 (TellsFault form 0 name input fault) response
      → ExplainsInput name input form response

-- a schedule of so many processes, and the name of their input
pub data ExplainsSchedule (n : ℕ) (name from text : List ℕ) (form : Form) (response : Response) : Type 0 where
  schedule_taken : (steps : List ℕ) → schedule_of n text ≡ Ok steps → Gives 0 (λ out. out ≡ fine_in form name (both_taken_line name)) response
      → ExplainsSchedule n name from text form response
  schedule_explained : (refusal : Refusal) → IsScheduleRefused n text refusal → Gives 1 (TellsFault form n from text (I.Refused refusal)) response
      → ExplainsSchedule n name from text form response

-- the input comes first
pub data ExplainsBoth (name input from text : List ℕ) (form : Form) (response : Response) : Type 0 where
  input_taken : (n : ℕ) → HasProcesses input n → ExplainsSchedule n name from text form response → ExplainsBoth name input from text form response
  input_explained : (fault : InputFault) → IsFaultOf input fault → Gives 1 (TellsFault form 0 name input fault) response
      → ExplainsBoth name input from text form response

abbrev pub Explains : {F : Type 0} → ReadsOf F → ReadsInputOf F → F → F → List ℕ → Option (List ℕ) → Form → Response → Type 0
Explains Reads ReadsInput before after file None form response =
    AfterFile Reads ReadsInput before after file (λ input. ExplainsInput file input form response)
Explains Reads ReadsInput before after file (Some schedule) form response =
    AfterBoth Reads ReadsInput before after file schedule (λ input from text. ExplainsBoth file input from text form response)
