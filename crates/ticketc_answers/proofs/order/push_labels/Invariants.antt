use Rattle.std.proofs.Common.{◌≡◌, ◌++◌, drop, map, string_bytes}
use Rattle.base.specs.Lines.{spaced}
use Rattle.ticketc_answers.specs.Order.{label_text}
use Rattle.ticketc_answers.proofs.order.push_labels.Given as goal

abbrev pub invariant-loop-process : goal.invariant-loop-process
invariant-loop-process l =
    string_bytes l.text ++ spaced (map label_text (drop l.process l.word)) ≡ string_bytes l.fn.text ++ spaced (map label_text l.word)
