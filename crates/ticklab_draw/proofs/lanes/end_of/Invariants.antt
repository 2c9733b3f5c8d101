use Rattle.std.proofs.Common.{◌≡◌, drop}
use Rattle.ticklab_draw.specs.Lanes.{end_from, end_of}
use Rattle.ticklab_draw.proofs.lanes.end_of.Given as goal

abbrev pub invariant-loop-mark : goal.invariant-loop-mark
invariant-loop-mark l = end_from l.p l.status (drop l.mark-index l.marks) ≡ end_of l.p l.marks
