use Rattle.std.proofs.Common.{◌∙◌, refl, sym}
use Rattle.std.proofs.lemmas.List.{length-map}
use Rattle.language_properties.specs.Properties.{formula_of}
use Rattle.language_questions.specs.Lines.{asked_of}
use Rattle.ticklab_files.specs.Asking.{IsFileRefused, TellsOption, lines_in, place_of, texts_of}
use Rattle.ticklab_files.specs.Asking.{IsUnexplored, no_file, no_option}
use Rattle.ticklab_files.proofs.ProgramFiles.{file_of}
use Rattle.ticklab_files.proofs.Responding.{refused_as, stopped_by}
use Rattle.ticklab_files.proofs.reading.asked_program.Goals as goal

pub returns-in_err-spelled-clause-refused : goal.returns-in_err-spelled-clause-refused
returns-in_err-spelled-clause-refused c =
    stopped_by (IsUnexplored c.args.name.now (texts_of c.args.never.now) c.args.input.now) _ c.from_residual.result c.from_residual.ensures.1
    (refused_as {P = IsFileRefused c.args.name.now c.args.input.now} _ (λ report told. no_file told) c.in_err-spelled.ensures.refused)

pub returns-in_err-lines-clause-refused : goal.returns-in_err-lines-clause-refused
returns-in_err-lines-clause-refused c =
    let texts = texts_of c.args.never.now in
    let file = file_of _ _ (asked_of c.in_ok-spelled.questions) c.in_ok-spelled.ensures.spelled.0 c.in_ok-spelled.ensures.questions in
    stopped_by (IsUnexplored c.args.name.now texts c.args.input.now) _ c.from_residual-in_err-lines.result c.from_residual-in_err-lines.ensures.1
    (refused_as {P = TellsOption file.program (lines_in file.asked) texts} _ (λ report told. no_option file told) c.in_err-lines.ensures.refused)

pub returns-clause-asks : goal.returns-clause-asks
returns-clause-asks c =
    let held = c.in_ok-lines.lines in record {
      is = c.in_ok-spelled.ensures.spelled.0;
      asked = asked_of c.in_ok-spelled.questions;
      asks = c.in_ok-spelled.ensures.questions;
      who = refl;
      read = c.in_ok-lines.ensures.read;
      stand = c.in_ok-lines.ensures.places;
      many = length-map held.places.items place_of ∙ sym c.in_ok-lines.ensures.as_many ∙ sym (length-map held.properties.items formula_of);
    }
