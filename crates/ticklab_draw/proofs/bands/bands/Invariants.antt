use Rattle.std.proofs.Common.{◌≡◌, ◌+◌, ◌≤◌, ◌++◌, drop}
use Rattle.ticklab_draw.specs.Bands.{bands, lanes_from}
use Rattle.ticklab_draw.specs.LaneSets.{lane_count}
use Rattle.ticklab_draw.proofs.bands.bands.Given as goal

abbrev pub invariant-loop-at : goal.invariant-loop-at
invariant-loop-at l = record {
  found :
      l.found.items ++ lanes_from l.look l.columns l.number l.lanes l.at (drop l.at l.marks)
      ≡ bands l.look l.n l.columns l.marks;
  few : l.lanes.above + lane_count l.lanes.has ≤ l.at + 6;
}
