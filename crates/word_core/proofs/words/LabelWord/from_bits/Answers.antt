use Rattle.word_core.proofs.Views.{word_self}
use Rattle.word_core.proofs.words.LabelWord.from_bits.Goals as goal

pub invariant_of-result : goal.invariant_of-result
invariant_of-result c = (
  c.requires.at_least_one,
  c.requires.at_most_six,
  word_self c.args.n c.args.bits c.requires.word.0 c.requires.at_most_six c.requires.word.1,
)

pub returns : goal.returns
returns c = word_self c.args.n c.args.bits c.requires.word.0 c.requires.at_most_six c.requires.word.1
