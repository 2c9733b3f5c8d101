use Rattle.tick_sim.proofs.Dropped.{drop_law}
use Rattle.tick_sim.proofs.laws.law_drop.Goals as goal

pub returns : goal.returns
returns c = drop_law
