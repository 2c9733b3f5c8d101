-- What is asked of a program, by the lines `#!` of its file and by the options of a command line; and what is told of a
-- fault in it.
use Rattle.std.specs.Prelude.{◌≡◌, ◌++◌, ℕ, List, [], ◌∷◌, Result, Ok, Err, codes, length, map}
use Rattle.std.specs.Borrow.{Bor}
use Rattle.base.specs.Plain.{Name, WholeProgram}
use Rattle.base.specs.declared.span.Span.{Span}
use Rattle.language_properties.specs.Properties.{Formula}
use Rattle.language_questions.specs.Lines.{Asked, questions_in}
use Rattle.language_questions.specs.Reading.{question_of}
use Rattle.language_questions.specs.declared.fault.QuestionFault.{QuestionFault}
use Rattle.ticketc_refusals.specs.Refusals.{IsProgramRefused, ProgramIn}
use Rattle.ticklab_explain.specs.Questions.{IsQuestionReport}
use Rattle.ticklab_explain.specs.Reports.{Tells}
use Rattle.ticklab_files.specs.declared.asking.PropertyPlace.{PropertyPlace}

-- An accepted program, and what the lines of its file ask.
pub record IsProgramFile (input : List ℕ) : Type 0 where
  pub program : WholeProgram Name
  pub is : ProgramIn input program
  pub asked : Asked
  pub asks : questions_in program input ≡ Ok asked

-- the program that the input is
abbrev pub IsOf : List ℕ → WholeProgram Name → Type 0
IsOf input a = (is : IsProgramFile input) × (a ≡ is.program)

-- it is the report of the fault that the lines of the program's file have
pub record TellsQuestion (a : WholeProgram Name) (name input report : List ℕ) : Type 0 where
  pub fault : QuestionFault
  pub had : questions_in a input ≡ Err fault
  pub told : IsQuestionReport name input fault report

-- The report of an input that is refused: of the program first, then of what its lines ask.
pub data IsFileRefused (name input report : List ℕ) : Type 0 where
  no_program : Tells (IsProgramRefused input) name input report → IsFileRefused name input report
  no_question : (a : WholeProgram Name) → ProgramIn input a → TellsQuestion a name input report → IsFileRefused name input report

-- where the text of a property stands: in the text of this name this part
pub record TextPlace : Type 0 where
  pub name : List ℕ
  pub text : List ℕ
  pub span : Span

abbrev pub text_place : List ℕ → List ℕ → Span → TextPlace
text_place name text span = record { name = name; text = text; span = span }

-- an option `--never` is a property as a whole
abbrev pub option_place : List ℕ → TextPlace
option_place text = text_place (codes "--never") text (record { start = 0; end = length text })

-- the properties so far, and then those that these texts are; or the first text that is none, and its fault
abbrev pub option_then : List ℕ → (Formula → Result (List Formula) (List ℕ × QuestionFault)) → Result Formula QuestionFault
    → Result (List Formula) (List ℕ × QuestionFault)
option_then text more (Ok formula) = more formula
option_then text more (Err fault) = Err (text, fault)

abbrev pub options_after : WholeProgram Name → List Formula → List (List ℕ) → Result (List Formula) (List ℕ × QuestionFault)
options_after a lines [] = Ok lines
options_after a lines (text ∷ texts) =
    option_then text (λ formula. options_after a (lines ++ formula ∷ []) texts) (question_of a text)

-- the properties of the lines of a file, and where they stand
abbrev pub lines_in : Asked → List Formula
lines_in asked = map (λ line. line.0) asked.never

abbrev pub places_in : List ℕ → List ℕ → Asked → List TextPlace
places_in name input asked = map (λ line. text_place name input line.1) asked.never

-- What must never hold of the program that an input is: the lines `#! never` of its file, and then these texts of a
-- command line.
pub record AsksNever (texts : List (List ℕ)) (input : List ℕ) : Type 0 where
  pub file : IsProgramFile input
  pub lines : List Formula
  pub read : options_after file.program (lines_in file.asked) texts ≡ Ok lines

-- where they stand
abbrev pub places_by : List ℕ → List ℕ → Asked → List (List ℕ) → List TextPlace
places_by name input asked texts = places_in name input asked ++ map option_place texts

-- It is the report of the first of these texts that is no property, where these are the properties before them.
pub record TellsOption (a : WholeProgram Name) (lines : List Formula) (texts : List (List ℕ)) (report : List ℕ) : Type 0 where
  pub text : List ℕ
  pub fault : QuestionFault
  pub had : options_after a lines texts ≡ Err (text, fault)
  pub told : IsQuestionReport (codes "--never") text fault report

-- the same of one text
pub record TellsText (a : WholeProgram Name) (text report : List ℕ) : Type 0 where
  pub fault : QuestionFault
  pub had : question_of a text ≡ Err fault
  pub told : IsQuestionReport (codes "--never") text fault report

-- what the code holds of a place and of texts
abbrev pub place_of : PropertyPlace → TextPlace
place_of place = text_place place.name.now place.text.now place.span

abbrev pub texts_of : List (Bor (List ℕ)) → List (List ℕ)
texts_of texts = map (λ text. text.now) texts

-- The report of an input that isn't explored: of its file first, then of these texts of a command line.
pub data IsUnexplored (name : List ℕ) (texts : List (List ℕ)) (input report : List ℕ) : Type 0 where
  no_file : IsFileRefused name input report → IsUnexplored name texts input report
  no_option : (is : IsProgramFile input) → TellsOption is.program (lines_in is.asked) texts report → IsUnexplored name texts input report
