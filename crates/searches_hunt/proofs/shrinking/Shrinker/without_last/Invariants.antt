use Rattle.std.proofs.Common.{◌<◌, ◌+◌, ◌-◌, ◌*◌, length, nat_lt, cond}
use Rattle.tick_kinds.specs.Resolution.{resolved}
use Rattle.searches_explore.specs.Lines.{lines_of}
use Rattle.searches_hunt.specs.prover.Parts.{IsFaultOf}
use Rattle.searches_hunt.proofs.shrinking.Shrinker.without_last.Given as goal

abbrev pub invariant-processes : goal.invariant-processes
invariant-processes l =
    IsFaultOf (resolved l.self.program.now) (lines_of l.self.lines.now) l.fn.schedule.items l.kept.items × (0 < l.size)

-- a try of several steps may be followed by one of a single step of the same process
abbrev pub decreases-processes : goal.decreases-processes
decreases-processes l = 2 * (length l.kept.items + (256 - l.process)) + cond (nat_lt 1 l.size) 1 0
