use Rattle.std.proofs.Common.{◌≡◌, ◌-◌, ◌++◌, take, replicate}
use Rattle.ticklab_draw.proofs.marking.row_of.Given as goal

-- the tickets so far, and 0 past them
abbrev pub invariant-loop-process : goal.invariant-loop-process
invariant-loop-process l = l.row ≡ take l.process l.tickets ++ replicate (6 - l.process) 0
