use Rattle.code_text.proofs.Readings.{some_reading}
use Rattle.code_text.proofs.Unique.{one_reading}
use Rattle.code_text.proofs.laws.law_one_reading.Goals as goal

pub returns-clause-at_most_one : goal.returns-clause-at_most_one
returns-clause-at_most_one c = one_reading

pub returns-clause-some : goal.returns-clause-some
returns-clause-some c = some_reading
