use Rattle.std.proofs.Common.{ap, ◌∙◌}
use Rattle.ticket_core.specs.declared.moves.Move.TheVariants.{Clear}
use Rattle.word_core.specs.Packed.{word}
use Rattle.ticket_word.proofs.Changing.{word_stands}
use Rattle.ticket_word.proofs.calls.ticket_word_cleared.Goals as goal

pub returns-in-Ok-clause-tickets : goal.returns-in-Ok-clause-tickets
returns-in-Ok-clause-tickets c =
    λ _. word_stands c.args.n c.args.word c.bits.result (Clear c.args.p) c.in-Ok.labels c.in-Ok.ensures.ok.is (c.bits.ensures ∙ ap word c.cleared.ensures.cleared)
