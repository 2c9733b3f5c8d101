use Rattle.std.proofs.Common.{◌∙◌, arith}
use Rattle.ticket_word.proofs.Changing.{telling_law}
use Rattle.ticket_word.proofs.calls.ticket_word_held.Goals as goal

pub returns-in-Ok-clause-held : goal.returns-in-Ok-clause-held
returns-in-Ok-clause-held c =
    let asked = c.in-Ok.ensures.ok in
    λ _ tickets stands.
    c.held.ensures ∙ (telling_law c.args.n c.args.word tickets stands c.in-Ok.labels asked.is).held c.args.i (asked.are 0 0 (omega arith))
