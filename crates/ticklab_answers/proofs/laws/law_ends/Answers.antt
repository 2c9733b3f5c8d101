use Rattle.ticklab_answers.proofs.CarriedEnds.{code_ends_law}
use Rattle.ticklab_answers.proofs.laws.law_ends.Goals as goal

pub returns : goal.returns
returns c = code_ends_law
