use Rattle.std.proofs.Common.{ap, arith}
use Rattle.ticket_core.specs.Tickets.{greatest_ticket}
use Rattle.ticket_core.proofs.Offered.{greatest-start_tickets}
use Rattle.tick_source.proofs.memory.SourceMemory.new.Goals as goal

pub invariant_of-result : goal.invariant_of-result
invariant_of-result c = record { counted = omega (arith, ap greatest_ticket c.new.ensures, greatest-start_tickets c.args.n) }
