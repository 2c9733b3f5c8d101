use Rattle.tick_sim.proofs.Round.{round_law}
use Rattle.tick_sim.proofs.laws.law_round.Goals as goal

pub returns : goal.returns
returns c = round_law
