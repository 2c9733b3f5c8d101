use Rattle.word_core.proofs.Offered.{distinct_law}
use Rattle.word_core.proofs.laws.law_words.Goals as goal

pub returns : goal.returns
returns c = distinct_law
