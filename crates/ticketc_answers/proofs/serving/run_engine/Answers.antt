use Rattle.std.proofs.Common.{Ok}
use Rattle.ticketc_line.specs.declared.command.Request.TheVariants.{Run}
use Rattle.ticketc_answers.proofs.ServingLemmas.{answered_on_read, gave_response, gave_up_reading, unanswered}
use Rattle.ticketc_answers.proofs.Weakening.{err_is}
use Rattle.ticketc_answers.proofs.serving.run_engine.Goals as goal

pub returns-in_err-input : goal.returns-in_err-input
returns-in_err-input g c =
    let stopped = c.in_err-input.ensures in
    rw (err_is c.from_residual.result c.from_residual.ensures.1)
    (gave_up_reading (Ok (Run c.args.turns)) _ _ _ _ _ _ (λ none. absurd (cc)) stopped.few stopped.calls _ stopped.err _ stopped.counted)

pub returns-in_err-response : goal.returns-in_err-response
returns-in_err-response g c =
    let read = c.in_ok-input.ensures in
    rw (err_is c.from_residual-in_err-response.result c.from_residual-in_err-response.ensures.1)
    (unanswered (Ok (Run c.args.turns)) _ _ _ _ _ _ (λ none. absurd (cc)) read.few read.calls _ c.in_err-response.ensures _ read.counted)

pub returns : goal.returns
returns g c =
    let request = Run c.args.turns in
    let read = c.in_ok-input.ensures in
    let sent = c.write_response.ensures in
    gave_response (Ok request) _ _ _ _ _ _ (λ none. absurd (cc)) read.few read.calls c.in_ok-response.response _ _ _
    (answered_on_read request _ _ _ _ c.in_ok-response.response c.as_slice.ensures.value read.ok c.in_ok-response.ensures)
    read.counted sent.status sent.ok sent.err sent.fault sent.counted
