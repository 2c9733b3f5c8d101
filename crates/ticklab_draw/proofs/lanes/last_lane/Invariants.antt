use Rattle.std.proofs.Common.{◌≡◌, drop}
use Rattle.ticklab_draw.specs.Lanes.{lane_end_from, last_lane}
use Rattle.ticklab_draw.proofs.lanes.last_lane.Given as goal

abbrev pub invariant-loop-column : goal.invariant-loop-column
invariant-loop-column l = lane_end_from l.bands l.p l.found (drop l.column-index l.columns) ≡ last_lane l.bands l.p l.columns
