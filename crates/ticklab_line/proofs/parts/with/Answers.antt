use Rattle.std.proofs.lemmas.Result.{IfOk-weaker}
use Rattle.ticklab_line.proofs.CommandLines.{one_more_command}
use Rattle.ticklab_line.proofs.parts.with.Goals as goal

pub returns : goal.returns
returns c = λ above app is_line is_command.
    IfOk-weaker _ _ _
    (λ longer adds. one_more_command _ _ _ _ _ adds (rw c.in_ok-line.ensures.0 at is_line) (rw c.in_ok-line.ensures.1 at is_command))
    c.subcommand.ensures
