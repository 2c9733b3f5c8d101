use Rattle.ticklab_answers.proofs.Carried.{code_law}
use Rattle.ticklab_answers.proofs.laws.law_code.Goals as goal

pub returns : goal.returns
returns c = code_law
