use Rattle.ticketc_line.specs.declared.command.Request.TheVariants.{Run}
use Rattle.ticketc_answers.proofs.ServingLemmas.{stop_answered}
use Rattle.ticketc_answers.proofs.answer.run_response.Goals as goal

pub returns-in-Err : goal.returns-in-Err
returns-in-Err g c =
    stop_answered (Run c.args.turns) c.args.input.now c.in-Err.stop c.stop_response.result c.stop_response.ensures.ok
    c.stop_response.ensures.err c.in-Err.ensures
