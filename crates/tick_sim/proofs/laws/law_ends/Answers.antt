use Rattle.tick_sim.proofs.Ends.{ends_law}
use Rattle.tick_sim.proofs.laws.law_ends.Goals as goal

pub returns : goal.returns
returns c = ends_law
