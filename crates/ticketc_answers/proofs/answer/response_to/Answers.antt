use Rattle.ticketc_line.specs.Asked.{plain_command}
use Rattle.ticketc_line.specs.declared.command.Request.TheVariants.{Alone}
use Rattle.ticketc_answers.proofs.ServingLemmas.{stop_answered}
use Rattle.ticketc_answers.proofs.answer.response_to.Goals as goal

pub returns-in-Err : goal.returns-in-Err
returns-in-Err c =
    stop_answered (Alone (plain_command c.args.command)) c.args.input.now c.in-Err.stop c.stop_response.result c.stop_response.ensures.ok
    c.stop_response.ensures.err c.in-Err.ensures
