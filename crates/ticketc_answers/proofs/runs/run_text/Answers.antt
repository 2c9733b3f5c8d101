use Rattle.std.proofs.Common.{true}
use Rattle.ticketc_answers.proofs.Told.{answered, stopped}
use Rattle.ticketc_answers.proofs.Weakening.{err_is}
use Rattle.ticketc_answers.proofs.runs.run_text.Goals as goal

pub returns : goal.returns
returns g c = answered true _ _ _ c.in_ok-code.code c.in_ok-code.ensures.code c.told.result c.told.ensures

pub returns-in_err-code : goal.returns-in_err-code
returns-in_err-code g c = rw (err_is c.from_residual.result c.from_residual.ensures.1) (stopped true _ _ _ _ c.in_err-code.ensures.refused)
