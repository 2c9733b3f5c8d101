use Rattle.std.proofs.Common.{◌≡◌, ◌-◌, ◌++◌, take, replicate}
use Rattle.ticket_core.specs.Tickets.{ticket_ranks}
use Rattle.ticket_core.proofs.ranks_of.Given as goal

-- the ranks so far, and 0 past them
abbrev pub invariant-loop-process : goal.invariant-loop-process
invariant-loop-process l = l.ranks ≡ take l.process (ticket_ranks l.tickets) ++ replicate (6 - l.process) 0
