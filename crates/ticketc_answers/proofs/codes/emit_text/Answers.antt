use Rattle.std.proofs.Common.{false}
use Rattle.ticketc_answers.proofs.Told.{answered, stopped}
use Rattle.ticketc_answers.proofs.Weakening.{err_is}
use Rattle.ticketc_answers.proofs.codes.emit_text.Goals as goal

pub returns : goal.returns
returns c = answered false _ _ _ c.in_ok-code.code c.in_ok-code.ensures.code c.written.result c.written.ensures

pub returns-in_err-code : goal.returns-in_err-code
returns-in_err-code c = rw (err_is c.from_residual.result c.from_residual.ensures.1) (stopped false _ _ _ _ c.in_err-code.ensures.refused)
