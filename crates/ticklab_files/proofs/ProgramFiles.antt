-- The program of a file whose lines can be read, and why there is none.
use Rattle.std.proofs.Common.{◌≡◌, ℕ, List, Ok, refl}
use Rattle.base.specs.Plain.{Name, WholeProgram}
use Rattle.language_properties.specs.Properties.{Formula}
use Rattle.language_questions.specs.Lines.{Asked, questions_in}
use Rattle.language_questions.specs.declared.questions.EndsLines.{EndsLines}
use Rattle.ticketc_refusals.specs.Refusals.{IsProgramRefused, ProgramIn}
use Rattle.ticklab_explain.specs.Reports.{Tells}
use Rattle.ticklab_files.specs.Asking.{AsksNever, IsFileRefused, IsOf, IsProgramFile, TellsQuestion, TextPlace, no_program, no_question}
use Rattle.ticklab_files.specs.Stops.{IfRefused}
use Rattle.ticklab_files.specs.declared.stop.NoAnswer.{NoAnswer}
use Rattle.ticklab_files.specs.prover.Asked.{IsAsked}
use Rattle.ticklab_files.proofs.Responding.{refused_as}

module _ (input : List ℕ) (a : WholeProgram Name) (asked : Asked) (is : ProgramIn input a) (asks : questions_in a input ≡ Ok asked) where
  abbrev pub file_of : IsProgramFile input
  file_of = record { program = a; is = is; asked = asked; asks = asks }

  pub is_of : IsOf input a
  is_of = (record { program = a; is = is; asked = asked; asks = asks }, refl)

-- with what must never hold of it
module _ {name : List ℕ} {texts : List (List ℕ)} {input : List ℕ} {a : WholeProgram Name} {ends : EndsLines} {lines : List Formula}
    {places : List TextPlace} (known : IsAsked name texts input a ends lines places) where
  abbrev pub asks_of : AsksNever texts input
  asks_of = record {
    file = record { program = a; is = known.is; asked = known.asked; asks = known.asks };
    lines = lines;
    read = known.read;
  }

module _ (name input : List ℕ) (stop : NoAnswer) where
  pub program_refused : IfRefused stop (Tells (IsProgramRefused input) name input) → IfRefused stop (IsFileRefused name input)
  program_refused = refused_as stop (λ report told. no_program told)

  pub question_refused : (a : WholeProgram Name) → ProgramIn input a → IfRefused stop (TellsQuestion a name input) → IfRefused stop (IsFileRefused name input)
  question_refused a is = refused_as stop (λ report told. no_question a is told)
