use Rattle.std.proofs.Common.{◌≡◌}
use Rattle.ticklab_draw.specs.LaneSets.{all_lanes}
use Rattle.ticklab_draw.proofs.bands.all_lanes.Given as goal

abbrev pub invariant-loop-p : goal.invariant-loop-p
invariant-loop-p l = l.has ≡ all_lanes l.p
