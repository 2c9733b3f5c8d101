use Rattle.label_core.proofs.Rows.{digits_law}
use Rattle.label_core.proofs.laws.law_digits.Goals as goal

pub returns : goal.returns
returns c = digits_law
