use Rattle.std.proofs.Common.{◌∙◌, arith}
use Rattle.ticket_word.proofs.Changing.{telling_law}
use Rattle.ticket_word.proofs.calls.ticket_word_older.Goals as goal

pub returns-in-Ok-clause-older : goal.returns-in-Ok-clause-older
returns-in-Ok-clause-older c =
    let asked = c.in-Ok.ensures.ok in
    λ _ tickets stands.
    c.older.ensures ∙ (telling_law c.args.n c.args.word tickets stands c.in-Ok.labels asked.is).older c.args.i c.args.j (asked.are 0 0 (omega arith)) (asked.are 1 0 (omega arith))
