use Rattle.std.proofs.Common.{◌≡◌, ◌++◌}
use Rattle.ticklab_draw.specs.Legend.{narrow_lines}
use Rattle.ticklab_draw.proofs.legend.push_narrow.Given as goal

abbrev pub invariant-loop-at : goal.invariant-loop-at
invariant-loop-at l = l.out.items ≡ l.fn.out.items ++ narrow_lines l.top l.at
