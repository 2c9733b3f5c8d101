use Rattle.std.proofs.Common.{◌≡◌, arith, length, refl}
use Rattle.std.proofs.lemmas.Result.{err_from_is_err_and}
use Rattle.language_schedules.proofs.ScheduleLemmas.{item_pushed, item_refused, step_pushed}
use Rattle.language_schedules.proofs.schedule.push_item.Goals as goal

pub returns-in_err-process-clause-err : goal.returns-in_err-process-clause-err
returns-in_err-process-clause-err c =
    let counted : c.len.result ≡ length c.args.steps.now.items = omega (arith, c.len.ensures, c.args.steps.now.ok.0) in
    let p = err_from_is_err_and c.from_residual.result c.from_residual.ensures.1 in
    rw (p.1, p.2) (λ not_memory. item_refused (λ process. process) _ _ _ c.args.item _ c.len.result counted c.in_err-process.ensures.err)

pub returns-clause-ok : goal.returns-clause-ok
returns-clause-ok c =
    let counted : c.len.result ≡ length c.args.steps.now.items = omega (arith, c.len.ensures, c.args.steps.now.ok.0) in
    item_pushed (λ process. process) _ _ _ _ c.args.item _ _ _ _ counted c.in_ok-process.ensures.ok refl c.steps-test.false c.steps.auto.counter-end c.steps.invariant

pub steps-preserved : goal.steps-preserved
steps-preserved c = step_pushed _ _ _ _ _ c.steps.invariant c.in_ok-push.ensures.items
