use Rattle.std.proofs.Common.{◌≡◌, take}
use Rattle.ticklab_draw.specs.LaneSets.{lane_count}
use Rattle.ticklab_draw.proofs.bands.lane_count.Given as goal

abbrev pub invariant-loop-lane : goal.invariant-loop-lane
invariant-loop-lane l = l.count ≡ lane_count (take l.lane-index l.has)
