use Rattle.std.proofs.Common.{◌≤◌, arith, length}
use Rattle.ticket_core.specs.Tickets.{greatest_ticket}
use Rattle.tick_source.proofs.Counted.{cleared_on}
use Rattle.tick_source.proofs.memory.SourceMemory.clear.Goals as goal

pub invariant_of-self : goal.invariant_of-self
invariant_of-self c =
    let counted : greatest_ticket c.args.self.now.tickets ≤ length c.args.self.now.events.items = omega (arith, c.args.self.now.counted, c.args.self.now.events.ok) in
    let grown = cleared_on c.args.p _ _ c.clear.new.self _ _ _ c.in_ok-tell.ensures.tickets c.in_ok-tell.ensures.ok counted c.clear.ensures in
    record { counted = omega (arith, c.tell.new.self.events.ok, grown) }
