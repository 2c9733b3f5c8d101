use Rattle.std.proofs.Common.{◌≡◌, take}
use Rattle.ticklab_draw.specs.Never.{marks_within}
use Rattle.ticklab_draw.proofs.never.marks_within.Given as goal

abbrev pub invariant-loop-mark : goal.invariant-loop-mark
invariant-loop-mark l = l.count ≡ marks_within l.steps (take l.mark-index l.marks)
