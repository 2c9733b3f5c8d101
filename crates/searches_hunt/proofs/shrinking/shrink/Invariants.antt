use Rattle.std.proofs.Common.{◌≡◌, ◌≤◌, length}
use Rattle.tick_kinds.specs.Resolution.{resolved}
use Rattle.searches_explore.specs.Lines.{lines_of}
use Rattle.searches_hunt.specs.Never.{NeedsAll}
use Rattle.searches_hunt.specs.prover.Parts.{IsFaultOf}
use Rattle.searches_hunt.proofs.shrinking.shrink.Given as goal

abbrev pub invariant-passes : goal.invariant-passes
invariant-passes l =
    IsFaultOf (resolved l.program) (lines_of l.lines) l.fn.schedule.items l.kept.items
    × (length l.kept.items ≤ l.before)
    × (length l.kept.items ≡ l.before → NeedsAll (resolved l.program) (lines_of l.lines) l.kept.items)

abbrev pub decreases-passes : goal.decreases-passes
decreases-passes l = l.before
