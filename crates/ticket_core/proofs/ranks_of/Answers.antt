use Rattle.std.proofs.Common.{◌≡◌, ◌<◌, arith, ap, ◌∙◌, sym, get_or, length, refl, set}
use Rattle.std.proofs.lemmas.List.{get_or-map}
use Rattle.ticket_core.specs.Tickets.{tickets_below, ticket_ranks}
use Rattle.ticket_core.proofs.Offered.{length-ticket_ranks}
use Rattle.base.proofs.Offered.{padded_next, padded_end}
use Rattle.ticket_core.proofs.ranks_of.Goals as goal

pub loop-process-preserved : goal.loop-process-preserved
loop-process-preserved c =
    let tickets = c.args.tickets.now in
    let at = c.loop-process.process in
    let inside : at < length tickets = c.loop-process-test.true in
    let rank : c.count_below.result ≡ get_or (ticket_ranks tickets) at 0 =
    c.count_below.ensures ∙ sym (get_or-map (tickets_below tickets) tickets at 0 0 inside) in
    ap (λ row. set row at c.count_below.result) c.loop-process.invariant
    ∙ rw rank (padded_next 6 0 (ticket_ranks tickets) at 0 (omega (arith, length-ticket_ranks tickets)) (omega (arith, c.requires)))

pub returns : goal.returns
returns c =
    let tickets = c.args.tickets.now in
    c.loop-process.invariant
    ∙ padded_end 6 0 (ticket_ranks tickets) c.loop-process.process (omega (arith, length-ticket_ranks tickets))
    ∙ rw (length-ticket_ranks tickets) refl
