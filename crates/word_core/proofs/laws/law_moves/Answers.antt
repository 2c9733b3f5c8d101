use Rattle.word_core.proofs.Offered.{moves_law}
use Rattle.word_core.proofs.laws.law_moves.Goals as goal

pub returns : goal.returns
returns c = moves_law
