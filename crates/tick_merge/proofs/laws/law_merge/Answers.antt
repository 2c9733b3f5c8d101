use Rattle.tick_merge.proofs.Whole.{merge_law}
use Rattle.tick_merge.proofs.laws.law_merge.Goals as goal

pub returns : goal.returns
returns c = merge_law
