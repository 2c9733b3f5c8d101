use Rattle.std.proofs.Common.{◌-◌, arith, ap, ◌∙◌, get_or, length, replicate}
use Rattle.std.proofs.lemmas.List.{get_or_append_left}
use Rattle.word_core.specs.Order.{label_ranks}
use Rattle.word_core.proofs.Offered.{length-label_ranks}
use Rattle.ticket_word.proofs.Changing.{telling_law}
use Rattle.ticket_word.proofs.calls.ticket_word_rank.Goals as goal

pub returns-in-Ok-clause-rank : goal.returns-in-Ok-clause-rank
returns-in-Ok-clause-rank c =
    let found = c.in-Ok.ensures.ok in
    let labels = found.labels in
    let i = c.args.i in
    λ _ tickets stands.
    ap (λ ranks. get_or ranks i 0) found.are
    ∙ get_or_append_left (label_ranks labels) (replicate (6 - length labels) 0) 0 i
    (omega (arith, found.asked.are 0 0 (omega arith), length-label_ranks labels, found.asked.is.are.count))
    ∙ ap (λ ranks. get_or ranks i 0) (telling_law c.args.n c.args.word tickets stands labels found.asked.is).ranks
