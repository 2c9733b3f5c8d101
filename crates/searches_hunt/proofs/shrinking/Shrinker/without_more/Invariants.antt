use Rattle.std.proofs.Common.{◌<◌, length}
use Rattle.tick_kinds.specs.Resolution.{resolved}
use Rattle.searches_explore.specs.Lines.{lines_of}
use Rattle.searches_hunt.specs.prover.Parts.{IsFaultOf}
use Rattle.searches_hunt.proofs.shrinking.Shrinker.without_more.Given as goal

abbrev pub invariant-more : goal.invariant-more
invariant-more l = IsFaultOf (resolved l.self.program.now) (lines_of l.self.lines.now) l.fn.schedule.items l.kept.items × (0 < l.size)

abbrev pub decreases-more : goal.decreases-more
decreases-more l = length l.kept.items
