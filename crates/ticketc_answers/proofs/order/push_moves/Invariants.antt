use Rattle.std.proofs.Common.{string_bytes}
use Rattle.ticketc_answers.proofs.OrderLemmas.{HasMoved}
use Rattle.ticketc_answers.proofs.order.push_moves.Given as goal

abbrev pub invariant-loop-made : goal.invariant-loop-made
invariant-loop-made l = HasMoved l.n l.moves (string_bytes l.fn.text) (string_bytes l.text) l.word l.made-index
