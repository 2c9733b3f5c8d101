use Rattle.std.proofs.Common.{arith, Some}
use Rattle.std.specs.Prelude.{slice_set}
use Rattle.word_core.specs.Packed.{AreLabels, IsWordOf}
use Rattle.word_core.proofs.Views.{held_word, labels_read, set_are, word_lt, word_self, written}
use Rattle.word_core.proofs.words.LabelWord.with_label.Goals as goal

-- the labels with the new one
old : (c : goal.After-self) → IsWordOf c.n-n.result c.self.inside.bits c.args.self.now
old c = held_word c.n-n.result c.self.inside.count c.self.inside.bits c.args.self.now c.self.invariant.2 c.self.view_is c.n-n.ensures.count

are : (c : goal.After-self) → AreLabels c.n-n.result (slice_set c.args.self.now c.args.p (Some c.args.label.now))
are c = set_are c.n-n.result c.args.p c.args.self.now c.args.label.now c.n-n.ensures.labels (rw c.n-n.ensures.count c.requires.label)

pub with_label-requires-clause-room : goal.with_label-requires-clause-room
with_label-requires-clause-room c =
    let labels = slice_set c.args.self.now c.args.p (Some c.args.label.now) in
    omega (arith, written c.args.p c.args.self.now c.args.label.now c.requires.in_range c.requires.absent, (old c).packs, word_lt c.n-n.result labels c.n-n.ensures.at_most_six (are c))

-- the bits are its word
is : (c : goal.After-with_label) → IsWordOf c.n-n.result c.with_label.result (slice_set c.args.self.now c.args.p (Some c.args.label.now))
is c =
    let held = held_word c.n-n.result c.self.inside.count c.self.inside.bits c.args.self.now c.self.invariant.2 c.self.view_is c.n-n.ensures.count in
    record {
      are = set_are c.n-n.result c.args.p c.args.self.now c.args.label.now c.n-n.ensures.labels (rw c.n-n.ensures.count c.requires.label);
      packs = omega (arith, written c.args.p c.args.self.now c.args.label.now c.requires.in_range c.requires.absent, held.packs, c.with_label.ensures);
    }

pub invariant_of-result : goal.invariant_of-result
invariant_of-result c = (
  c.n-n.ensures.at_least_one,
  c.n-n.ensures.at_most_six,
  word_self c.n-n.result c.with_label.result (slice_set c.args.self.now c.args.p (Some c.args.label.now)) c.n-n.ensures.at_most_six (is c),
)

pub returns : goal.returns
returns c = labels_read c.n-n.result c.with_label.result (slice_set c.args.self.now c.args.p (Some c.args.label.now)) c.n-n.ensures.at_most_six (is c)
