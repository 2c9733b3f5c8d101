use Rattle.std.proofs.Common.{ap, ◌∙◌}
use Rattle.std.specs.Prelude.{◌==◌}
use Rattle.word_core.specs.Stamps.{label_at}
use Rattle.word_core.proofs.Views.{held_word, presence_read, present_bit}
use Rattle.word_core.proofs.words.LabelWord.held.Goals as goal

pub returns : goal.returns
returns c =
    let n = c.n-n.result in
    let labels = c.args.self.now in
    let is = held_word n c.self.inside.count c.self.inside.bits labels c.self.invariant.2 c.self.view_is c.n-n.ensures.count in
    c.is_present.ensures
    ∙ ap (λ bit. bit == 1) (presence_read n c.self.inside.bits c.args.i labels c.n-n.ensures.at_most_six is)
    ∙ present_bit (label_at labels c.args.i)
