use Rattle.word_core.proofs.Taken.{Taken}
use Rattle.word_core.proofs.order.are_apart.Given as goal

-- the numbers so far are taken, and all different
abbrev pub invariant-loop-number : goal.invariant-loop-number
invariant-loop-number l = Taken l.numbers l.taken l.number-index
