use Rattle.ticketc_answers.proofs.RunKinds.{outcome_law, refusal_law}
use Rattle.ticketc_answers.proofs.RunPrograms.{program_law}
use Rattle.ticketc_answers.proofs.laws.law_run_answers.Goals as goal

pub returns : goal.returns
returns c = record { outcome = outcome_law; program = program_law; refusal = refusal_law }
