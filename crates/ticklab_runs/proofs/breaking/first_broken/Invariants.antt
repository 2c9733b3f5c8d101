use Rattle.std.proofs.Common.{◌≡◌, false, take}
use Rattle.searches_explore.specs.Lines.{breaks, lines_of}
use Rattle.ticklab_runs.proofs.breaking.first_broken.Given as goal

-- no line before it is broken
abbrev pub invariant-loop-line : goal.invariant-loop-line
invariant-loop-line l = breaks (take l.line (lines_of l.lines)) l.machine ≡ false
