use Rattle.tick_kinds.specs.Resolution.{resolved}
use Rattle.searches_explore.specs.Lines.{lines_of}
use Rattle.searches_hunt.specs.prover.Parts.{IsFaultOf}
use Rattle.searches_hunt.proofs.shrinking.Shrinker.of_each.Given as goal

abbrev pub invariant-loop-p : goal.invariant-loop-p
invariant-loop-p l = IsFaultOf (resolved l.self.program.now) (lines_of l.self.lines.now) l.fn.schedule.items l.kept.items
