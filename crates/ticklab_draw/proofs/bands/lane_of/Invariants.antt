use Rattle.std.proofs.Common.{◌≡◌, ◌≤◌}
use Rattle.ticklab_draw.specs.LaneSets.{lane_of}
use Rattle.ticklab_draw.proofs.bands.lane_of.Given as goal

abbrev pub invariant-loop-q : goal.invariant-loop-q
invariant-loop-q l = record {
  same : l.lane ≡ lane_of l.has l.q;
  low : l.lane ≤ l.q;
}
