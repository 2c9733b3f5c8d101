use Rattle.std.proofs.Common.{◌≡◌, ◌<◌, ◌+◌, ◌-◌, ◌*◌, ℕ, length, nat_lt, cond}
use Rattle.tick_kinds.specs.Resolution.{resolved}
use Rattle.searches_explore.specs.Lines.{lines_of}
use Rattle.searches_hunt.specs.Hunts.{without}
use Rattle.searches_hunt.specs.Never.{IsFaultless}
use Rattle.searches_hunt.specs.prover.Parts.{IsFaultOf}
use Rattle.searches_hunt.proofs.shrinking.Shrinker.without_items.Given as goal

-- Where none was left out yet, the fault needs each item before `at`.
abbrev pub invariant-items : goal.invariant-items
invariant-items l =
    IsFaultOf (resolved l.self.program.now) (lines_of l.self.lines.now) l.fn.schedule.items l.kept.items
    × (length l.kept.items ≡ length l.fn.schedule.items → (place : ℕ) → place < l.at → IsFaultless (resolved l.self.program.now) (lines_of l.self.lines.now) (without place l.kept.items))
    × (0 < l.size)

-- a try of several items may be followed by one of a single item at the same place
abbrev pub decreases-items : goal.decreases-items
decreases-items l = 2 * (length l.kept.items - l.at) + cond (nat_lt 1 l.size) 1 0
