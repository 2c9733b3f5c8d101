use Rattle.std.proofs.Common.{[], ◌∷◌, ap, ◌∙◌}
use Rattle.ticket_core.specs.declared.moves.Move.TheVariants.{Stamp}
use Rattle.word_core.specs.Packed.{word}
use Rattle.ticket_word.proofs.Telling.{tells_nothing, asked_word}
use Rattle.ticket_word.proofs.Changing.{word_stands}
use Rattle.ticket_word.proofs.calls.ticket_word_stamped.Goals as goal

pub returns-in-Ok-clause-tickets : goal.returns-in-Ok-clause-tickets
returns-in-Ok-clause-tickets c =
    λ _. word_stands c.args.n c.args.word c.bits.result (Stamp c.args.p) c.in-Ok.labels c.in-Ok.ensures.ok.is (c.bits.ensures ∙ ap word c.stamped.ensures.stamped)

pub returns-in-Ok-clause-fault : goal.returns-in-Ok-clause-fault
returns-in-Ok-clause-fault c =
    let processes = c.args.p ∷ [] in
    tells_nothing c.args.n c.args.word processes c.in-Ok.ensures.ok.are (asked_word c.args.n c.args.word processes c.in-Ok.labels c.in-Ok.ensures.ok)
