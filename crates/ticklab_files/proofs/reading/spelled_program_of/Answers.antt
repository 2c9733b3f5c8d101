use Rattle.ticklab_files.specs.Asking.{IsFileRefused}
use Rattle.ticklab_files.proofs.ProgramFiles.{program_refused, question_refused}
use Rattle.ticklab_files.proofs.Responding.{stopped_by}
use Rattle.ticklab_files.proofs.reading.spelled_program_of.Goals as goal

pub returns-in_err-spelled-clause-refused : goal.returns-in_err-spelled-clause-refused
returns-in_err-spelled-clause-refused c =
    stopped_by (IsFileRefused c.args.name.now c.args.input.now) _ c.from_residual.result c.from_residual.ensures.1
    (program_refused c.args.name.now c.args.input.now _ c.in_err-spelled.ensures.refused)

pub returns-in_err-questions-clause-refused : goal.returns-in_err-questions-clause-refused
returns-in_err-questions-clause-refused c =
    stopped_by (IsFileRefused c.args.name.now c.args.input.now) _ c.from_residual-in_err-questions.result c.from_residual-in_err-questions.ensures.1
    (question_refused c.args.name.now c.args.input.now _ c.in_ok-spelled.spelled.program c.in_ok-spelled.ensures.ok.0 c.in_err-questions.ensures.refused)
