use Rattle.std.proofs.Common.{◌≢◌, ℕ, ◌<◌, ◌≤◌, get_or}
use Rattle.ticklab_explain.proofs.place.line_start.Given as goal

abbrev pub invariant-loop-start : goal.invariant-loop-start
invariant-loop-start l = (l.start ≤ l.at) × ((k : ℕ) → l.start ≤ k → k < l.at → get_or l.text k 0 ≢ 10)

abbrev pub decreases-loop-start : goal.decreases-loop-start
decreases-loop-start l = l.start
