use Rattle.ticket_core.specs.declared.moves.Move.TheVariants.{Stamp}
use Rattle.ticketc_answers.proofs.OrderLemmas.{after_move, at_start}
use Rattle.ticketc_answers.proofs.order.push_moves.Goals as goal

pub loop-made-init : goal.loop-made-init
loop-made-init c = at_start _ _ _ _ c.start-word.ensures.start

pub loop-made-preserved : goal.loop-made-preserved
loop-made-preserved c =
    after_move _ _ _ _ _ _ _ _ (Stamp 0) c.loop-made.invariant c.loop-made-test.true c.moved-word.ensures.moved c.moved-word.ensures.ordered c.in_ok-push_move.ensures
