use Rattle.std.proofs.Common.{◌≡◌, ℕ, ◌<◌, ◌≤◌, ◌-◌, length, get_or, false}
use Rattle.base.specs.Blanks.{is_blank}
use Rattle.ticklab_explain.proofs.spot.item_end.Given as goal

abbrev pub invariant-loop-end : goal.invariant-loop-end
invariant-loop-end l =
    (l.at ≤ l.end) × (l.end ≤ length l.text) × ((k : ℕ) → l.at ≤ k → k < l.end → is_blank (get_or l.text k 0) ≡ false)

abbrev pub decreases-loop-end : goal.decreases-loop-end
decreases-loop-end l = length l.text - l.end
