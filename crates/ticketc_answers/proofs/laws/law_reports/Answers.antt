use Rattle.ticketc_answers.proofs.Reported.{drop_law, lift_law}
use Rattle.ticketc_answers.proofs.laws.law_reports.Goals as goal

pub returns-clause-drop : goal.returns-clause-drop
returns-clause-drop c = drop_law

pub returns-clause-lift : goal.returns-clause-lift
returns-clause-lift c = lift_law
