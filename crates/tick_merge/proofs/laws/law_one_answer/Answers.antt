use Rattle.tick_merge.proofs.OneAnswer.{one_answer}
use Rattle.tick_merge.proofs.laws.law_one_answer.Goals as goal

pub returns : goal.returns
returns c = one_answer
