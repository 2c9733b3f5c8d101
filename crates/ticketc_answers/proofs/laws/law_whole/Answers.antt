use Rattle.ticketc_answers.proofs.laws.law_whole.Goals as goal
