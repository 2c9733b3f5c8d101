use Rattle.std.proofs.Common.{◌∙◌}
use Rattle.ticket_word.proofs.Answering.{ranks_told}
use Rattle.ticket_word.proofs.calls.ticket_word_ranks.Goals as goal

pub returns-in-Ok-clause-ranks : goal.returns-in-Ok-clause-ranks
returns-in-Ok-clause-ranks c =
    let found = c.in-Ok.ensures.ok in
    λ _ tickets stands. found.are ∙ ranks_told c.args.n c.args.word tickets found.labels stands found.asked.is
