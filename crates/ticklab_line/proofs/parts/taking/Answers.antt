use Rattle.std.proofs.lemmas.Result.{IfOk-weaker}
use Rattle.ticklab_line.proofs.CommandLines.{one_more_word}
use Rattle.ticklab_line.proofs.parts.taking.Goals as goal

pub returns : goal.returns
returns c = λ app rule is_command is_word.
    IfOk-weaker _ _ _
    (λ longer adds. one_more_word _ _ _ _ _ adds (rw c.in_ok-command.was at is_command) is_word)
    c.arg.ensures
