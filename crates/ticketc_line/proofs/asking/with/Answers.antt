use Rattle.std.proofs.lemmas.Result.{IfOk-weaker}
use Rattle.ticketc_line.proofs.AskingLemmas.{with_one_more}
use Rattle.ticketc_line.proofs.asking.with.Goals as goal

pub returns-in-Ok-Ok : goal.returns-in-Ok-Ok
returns-in-Ok-Ok c = λ app shape is_line is_part.
    IfOk-weaker _ _ _
    (λ longer adds. with_one_more _ _ _ _ _ adds (rw c.in-Ok-Ok.is-1 at is_part) (rw c.in-Ok-Ok.is-0 at is_line))
    c.subcommand.ensures
