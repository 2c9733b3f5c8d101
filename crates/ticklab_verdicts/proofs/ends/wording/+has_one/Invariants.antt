use Rattle.std.proofs.Common.{length}
use Rattle.ticklab_verdicts.proofs.ends.wording.+has_one.Given as goal

abbrev pub decreases-has_one : goal.decreases-has_one
decreases-has_one l = length l.marks.now
