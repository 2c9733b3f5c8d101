use Rattle.std.proofs.Common.{◌∙◌, Err, ap, arith, refl, sym}
use Rattle.ticketc_line.specs.Asked.{plain_asked}
use Rattle.ticketc_answers.specs.Commands.{asks_run}
use Rattle.ticketc_answers.specs.declared.fault.EngineFault.TheVariants.{Memory}
use Rattle.ticketc_answers.proofs.ServingLemmas.{asking, gave_response, on_line, takes_none, unanswered}
use Rattle.ticketc_answers.proofs.Weakening.{err_is}
use Rattle.ticketc_answers.proofs.serving.engine.Goals as goal

pub returns-in_err-command : goal.returns-in_err-command
returns-in_err-command g c =
    rw (err_is c.from_residual.result c.from_residual.ensures.1)
    (unanswered _ _ _ _ _ _ _ (λ _. refl) (takes_none _) (omega arith) Memory tt _ refl)

pub returns-in_err-response-in-Err : goal.returns-in_err-response-in-Err
returns-in_err-response-in-Err g c =
    rw (err_is c.from_residual-in_err-response-in-Err.result c.from_residual-in_err-response-in-Err.ensures.1)
    (unanswered _ _ _ _ _ _ _ (λ _. refl) (takes_none _) (omega arith) Memory tt _ refl)

pub returns-in_err-status-in-Err : goal.returns-in_err-status-in-Err
returns-in_err-status-in-Err g c =
    let asks = sym (ap plain_asked c.in-Err.is) ∙ c.in_ok-command.ensures.asked in
    let sent = c.in_err-status-in-Err.ensures in
    rw (err_is c.from_residual-in_err-status-in-Err.result c.from_residual-in_err-status-in-Err.ensures.1)
    (asking _ _ _ _ _ _ _ _ _ _ _ asks
    (gave_response (Err c.in-Err.fault) _ _ _ _ _ _ (λ _. refl) (takes_none _) (omega arith) c.in_ok-response-in-Err.response _ _ _
    (on_line c.in-Err.fault _ c.in_ok-response-in-Err.response c.in_ok-response-in-Err.ensures)
    refl sent.status sent.ok sent.err sent.fault sent.counted))

pub returns-in_ok-status-in-Err : goal.returns-in_ok-status-in-Err
returns-in_ok-status-in-Err g c =
    let asks = sym (ap plain_asked c.in-Err.is) ∙ c.in_ok-command.ensures.asked in
    let sent = c.in_ok-status-in-Err.ensures in (
      sym (ap asks_run asks),
      asking _ _ _ _ _ _ _ _ _ _ _ asks
          (gave_response (Err c.in-Err.fault) _ _ _ _ _ _ (λ _. refl) (takes_none _) (omega arith) c.in_ok-response-in-Err.response _ _ _
          (on_line c.in-Err.fault _ c.in_ok-response-in-Err.response c.in_ok-response-in-Err.ensures)
          refl sent.status sent.ok sent.err sent.fault sent.counted),
    )
