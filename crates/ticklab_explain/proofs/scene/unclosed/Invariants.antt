use Rattle.std.proofs.Common.{◌≡◌, ◌≤◌, ◌+◌, length, reverse, take}
use Rattle.ticklab_explain.specs.Settings.{unclosed}
use Rattle.ticklab_explain.proofs.scene.unclosed.Given as goal

abbrev pub invariant-loop-at : goal.invariant-loop-at
invariant-loop-at l = record {
  within : l.at ≤ length l.tokens;
  few : l.closed + l.at ≤ length l.tokens;
  same : unclosed l.text l.closed (reverse (take l.at l.tokens)) ≡ unclosed l.text 0 (reverse l.tokens);
}

abbrev pub decreases-loop-at : goal.decreases-loop-at
decreases-loop-at l = l.at
