use Rattle.tick_merge.proofs.OneProcess.{came_by}
use Rattle.tick_merge.proofs.laws.law_beginnings.Goals as goal

pub returns : goal.returns
returns c = came_by
