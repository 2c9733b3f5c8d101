use Rattle.std.proofs.Common.{false}
use Rattle.ticketc_answers.proofs.Told.{answered}
use Rattle.ticketc_answers.proofs.program.check_text.Goals as goal

pub returns : goal.returns
returns c = answered false _ _ _ c.in_ok-program.program c.in_ok-program.ensures.ok c.printed.result c.printed.ensures
