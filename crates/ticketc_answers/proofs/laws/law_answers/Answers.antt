use Rattle.ticketc_answers.proofs.Determined.{answers_determined}
use Rattle.ticketc_answers.proofs.laws.law_answers.Goals as goal

pub returns-clause-at_most_one : goal.returns-clause-at_most_one
returns-clause-at_most_one c = λ asked input a b single. (answers_determined asked input single).0 a b

pub returns-clause-some : goal.returns-clause-some
returns-clause-some c = λ asked input single. (answers_determined asked input single).1
