use Rattle.tick_sim.proofs.PropertyValues.{properties_law}
use Rattle.tick_sim.proofs.laws.law_properties.Goals as goal

pub returns : goal.returns
returns c = properties_law
