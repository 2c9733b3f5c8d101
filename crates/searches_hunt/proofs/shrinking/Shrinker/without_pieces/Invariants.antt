use Rattle.std.proofs.Common.{◌-◌, length}
use Rattle.tick_kinds.specs.Resolution.{resolved}
use Rattle.searches_explore.specs.Lines.{lines_of}
use Rattle.searches_hunt.specs.prover.Parts.{IsFaultOf}
use Rattle.searches_hunt.proofs.shrinking.Shrinker.without_pieces.Given as goal

abbrev pub invariant-pieces : goal.invariant-pieces
invariant-pieces l = IsFaultOf (resolved l.self.program.now) (lines_of l.self.lines.now) l.fn.schedule.items l.kept.items

abbrev pub decreases-pieces : goal.decreases-pieces
decreases-pieces l = length l.kept.items - l.at
