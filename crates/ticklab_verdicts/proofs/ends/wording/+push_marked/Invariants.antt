use Rattle.std.proofs.Common.{length}
use Rattle.ticklab_verdicts.proofs.ends.wording.+push_marked.Given as goal

abbrev pub decreases-push_marked : goal.decreases-push_marked
decreases-push_marked l = length l.marks.now
