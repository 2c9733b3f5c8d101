use Rattle.std.proofs.Common.{◌≡◌, max, drop}
use Rattle.ticket_core.specs.Tickets.{greatest_ticket}
use Rattle.ticket_core.proofs.Tickets.greatest.Given as goal

-- the greatest so far and the greatest of what is left
abbrev pub invariant-loop-ticket : goal.invariant-loop-ticket
invariant-loop-ticket l = max l.greatest (greatest_ticket (drop l.ticket-index l.tickets)) ≡ greatest_ticket l.tickets
