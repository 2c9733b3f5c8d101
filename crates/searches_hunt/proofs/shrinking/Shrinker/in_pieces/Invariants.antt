use Rattle.tick_kinds.specs.Resolution.{resolved}
use Rattle.searches_explore.specs.Lines.{lines_of}
use Rattle.searches_hunt.specs.prover.Parts.{IsFaultOf}
use Rattle.searches_hunt.proofs.shrinking.Shrinker.in_pieces.Given as goal

abbrev pub invariant-sizes : goal.invariant-sizes
invariant-sizes l = IsFaultOf (resolved l.self.program.now) (lines_of l.self.lines.now) l.fn.schedule.items l.kept.items

abbrev pub decreases-sizes : goal.decreases-sizes
decreases-sizes l = l.size
