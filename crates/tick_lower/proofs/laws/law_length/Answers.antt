use Rattle.tick_lower.proofs.Offered.{lowered_long}
use Rattle.tick_lower.proofs.laws.law_length.Goals as goal

pub returns : goal.returns
returns c = lowered_long
