use Rattle.tick_sim.proofs.Lifted.{lift_law}
use Rattle.tick_sim.proofs.laws.law_lift.Goals as goal

pub returns : goal.returns
returns c = lift_law
