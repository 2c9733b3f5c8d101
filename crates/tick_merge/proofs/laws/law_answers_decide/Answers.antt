use Rattle.tick_merge.proofs.OneProcess.{once_per_answers}
use Rattle.tick_merge.proofs.laws.law_answers_decide.Goals as goal

pub returns : goal.returns
returns c = once_per_answers
