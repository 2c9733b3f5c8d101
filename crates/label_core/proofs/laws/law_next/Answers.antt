use Rattle.label_core.proofs.Offered.{next_law}
use Rattle.label_core.proofs.laws.law_next.Goals as goal

pub returns : goal.returns
returns c = next_law
