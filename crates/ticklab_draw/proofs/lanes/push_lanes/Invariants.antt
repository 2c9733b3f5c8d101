use Rattle.std.proofs.Common.{◌≡◌, ◌++◌}
use Rattle.ticklab_draw.specs.Lanes.{lanes_text}
use Rattle.ticklab_draw.proofs.lanes.push_lanes.Given as goal

abbrev pub invariant-loop-p : goal.invariant-loop-p
invariant-loop-p l = l.out.items ≡ l.fn.out.items ++ lanes_text l.bands l.last l.p
