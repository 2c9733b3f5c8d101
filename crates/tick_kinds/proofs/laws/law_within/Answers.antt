use Rattle.tick_kinds.proofs.Offered.{within_law}
use Rattle.tick_kinds.proofs.laws.law_within.Goals as goal

pub returns : goal.returns
returns c = within_law
