use Rattle.std.proofs.Common.{◌≡◌, ◌++◌}
use Rattle.ticklab_draw.specs.Lanes.{ends_text}
use Rattle.ticklab_draw.proofs.lanes.push_ends.Given as goal

abbrev pub invariant-loop-p : goal.invariant-loop-p
invariant-loop-p l = l.out.items ≡ l.fn.out.items ++ ends_text l.bands l.columns l.marks l.p
