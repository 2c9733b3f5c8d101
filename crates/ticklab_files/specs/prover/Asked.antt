-- A program of a file, with what is asked of it.
use Rattle.std.specs.Prelude.{◌≡◌, ℕ, List, Ok, length}
use Rattle.base.specs.Plain.{Name, WholeProgram}
use Rattle.language_properties.specs.Properties.{Formula}
use Rattle.language_questions.specs.Lines.{Asked, questions_in}
use Rattle.language_questions.specs.declared.questions.EndsLines.{EndsLines}
use Rattle.ticketc_refusals.specs.Refusals.{ProgramIn}
use Rattle.ticklab_files.specs.Asking.{TextPlace, lines_in, options_after, places_by}

-- The input is this program, and these must never hold of it, by the lines of its file and then these texts of a command
-- line. They stand at these places.
pub record IsAsked (name : List ℕ) (texts : List (List ℕ)) (input : List ℕ) (a : WholeProgram Name) (ends : EndsLines) (lines : List Formula)
    (places : List TextPlace) : Type 0 where
  pub is : ProgramIn input a
  pub asked : Asked
  pub asks : questions_in a input ≡ Ok asked
  pub who : asked.ends ≡ ends
  pub read : options_after a (lines_in asked) texts ≡ Ok lines
  pub stand : places ≡ places_by name input asked texts
  pub many : length places ≡ length lines
