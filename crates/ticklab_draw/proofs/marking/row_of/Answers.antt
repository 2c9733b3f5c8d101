use Rattle.std.proofs.Common.{◌≡◌, ◌∙◌, ap, arith, length, set}
use Rattle.base.proofs.Offered.{padded_end, padded_next}
use Rattle.ticklab_draw.proofs.marking.row_of.Goals as goal

pub loop-process-preserved : goal.loop-process-preserved
loop-process-preserved c =
    let tickets = c.args.tickets.now in
    let at = c.loop-process.process in
    ap (λ row. set row at c.ticket.result) c.loop-process.invariant
    ∙ rw c.ticket.ensures (padded_next 6 0 tickets at 0 (omega (arith, c.loop-process-test.true, c.count-process-end.ensures.count)) (omega (arith, c.loop-process-test.true, c.count-process-end.ensures.at_most_six)))

pub returns : goal.returns
returns c =
    let tickets = c.args.tickets.now in
    let all : c.loop-process.process ≡ length tickets = omega (arith, c.count-process-end.ensures.count) in
    c.loop-process.invariant ∙ padded_end 6 0 tickets c.loop-process.process all
