use Rattle.std.proofs.lemmas.Bool.{both_ways}
use Rattle.word_core.proofs.Views.{is_word, word_counts, word_fits}
use Rattle.word_core.proofs.words.LabelWord.read.Goals as goal

pub returns-then-not-fits : goal.returns-then-not-fits
returns-then-not-fits c = λ labels is. both_ways _ c.if-not-fits.true (c.fits.ensures.1 (word_fits c.args.n c.args.bits labels c.requires.at_most_six is))

pub returns-then-not-all_count : goal.returns-then-not-all_count
returns-then-not-all_count c = λ labels is. both_ways _ c.if-not-all_count.true (c.all_count.ensures.1 (word_counts c.args.n c.args.bits labels c.requires.at_most_six is))

pub invariant_of-result : goal.invariant_of-result
invariant_of-result c = (
  c.requires.at_least_one,
  c.requires.at_most_six,
  is_word c.args.n c.args.bits c.requires.at_most_six (c.fits.ensures.0 c.if-not-fits.false) (c.all_count.ensures.0 c.if-not-all_count.false),
)

pub returns : goal.returns
returns c = is_word c.args.n c.args.bits c.requires.at_most_six (c.fits.ensures.0 c.if-not-fits.false) (c.all_count.ensures.0 c.if-not-all_count.false)
