use Rattle.std.proofs.Common.{◌<◌, arith, ◌∙◌}
use Rattle.word_core.specs.Packed.{IsWordOf}
use Rattle.word_core.proofs.Views.{held_word, label_read, word_counts}
use Rattle.word_core.proofs.words.LabelWord.label.Goals as goal

is : (c : goal.After-self) → IsWordOf c.n-n.result c.self.inside.bits c.args.self.now
is c = held_word c.n-n.result c.self.inside.count c.self.inside.bits c.args.self.now c.self.invariant.2 c.self.view_is c.n-n.ensures.count

pub label_in-requires-clause-counts : goal.label_in-requires-clause-counts
label_in-requires-clause-counts c =
    let inside : c.args.i < c.n-n.result = omega (arith, c.requires, c.n-n.ensures.count) in
    word_counts c.n-n.result c.self.inside.bits c.args.self.now c.n-n.ensures.at_most_six (is c) c.args.i inside

pub returns : goal.returns
returns c =
    let inside : c.args.i < c.n-n.result = omega (arith, c.requires, c.n-n.ensures.count) in
    let held = held_word c.n-n.result c.self.inside.count c.self.inside.bits c.args.self.now c.self.invariant.2 c.self.view_is c.n-n.ensures.count in
    c.label_in.ensures ∙ label_read c.n-n.result c.self.inside.bits c.args.i c.args.self.now c.n-n.ensures.at_most_six inside held
