use Rattle.word_core.proofs.Offered.{agreement_law}
use Rattle.word_core.proofs.laws.law_agreement.Goals as goal

pub returns : goal.returns
returns c = agreement_law
