use Rattle.tick_kinds.proofs.Offered.{acceptance_law}
use Rattle.tick_kinds.proofs.laws.law_acceptance.Goals as goal

pub returns : goal.returns
returns c = acceptance_law
