use Rattle.std.proofs.Common.{◌≡◌, ◌≤◌, drop}
use Rattle.ticklab_explain.specs.Parts.{closed_after}
use Rattle.ticklab_explain.proofs.part.closed_after.Given as goal

abbrev pub invariant-loop-index : goal.invariant-loop-index
invariant-loop-index l = record {
  few : l.depth ≤ l.index;
  same : closed_after l.text l.depth l.index (drop l.index l.tokens) ≡ closed_after l.text 0 0 l.tokens;
}
