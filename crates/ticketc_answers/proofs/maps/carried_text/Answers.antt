use Rattle.std.proofs.Common.{false}
use Rattle.ticketc_answers.proofs.Told.{answered, stopped}
use Rattle.ticketc_answers.proofs.Weakening.{err_is}
use Rattle.ticketc_answers.proofs.maps.carried_text.Goals as goal

pub returns : goal.returns
returns c = answered false _ _ _ c.in_ok-program.code c.in_ok-program.ensures.lowered c.carried_schedule.result c.carried_schedule.ensures

pub returns-in_err-program : goal.returns-in_err-program
returns-in_err-program c = rw (err_is c.from_residual.result c.from_residual.ensures.1) (stopped false _ _ _ _ c.in_err-program.ensures.refused)
