use Rattle.std.proofs.Common.{false}
use Rattle.ticketc_answers.proofs.Told.{answered}
use Rattle.ticketc_answers.proofs.order.order_text.Goals as goal

pub returns : goal.returns
returns c = answered false _ _ _ _ c.in_ok-text.ensures c.ordered.result c.ordered.ensures
