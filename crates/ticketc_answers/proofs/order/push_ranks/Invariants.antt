use Rattle.std.proofs.Common.{◌≡◌, ◌++◌, drop, map, string_bytes}
use Rattle.std.specs.Fmt.{decimal}
use Rattle.base.specs.Lines.{spaced}
use Rattle.word_core.specs.Order.{label_ranks}
use Rattle.ticketc_answers.proofs.order.push_ranks.Given as goal

abbrev pub invariant-loop-rank : goal.invariant-loop-rank
invariant-loop-rank l =
    string_bytes l.text ++ spaced (map decimal (drop l.rank-index l.rank-items)) ≡ string_bytes l.fn.text ++ spaced (map decimal (label_ranks l.word))
