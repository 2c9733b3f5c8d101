use Rattle.std.proofs.Common.{◌≡◌, ℕ, arith, if◌then◌else◌, length}
use Rattle.std.proofs.lemmas.Result.{err_from_is_err_and}
use Rattle.ticket_core.specs.declared.moves.Move.{Move}
use Rattle.ticket_core.specs.declared.moves.Move.TheVariants.{Stamp, Clear}
use Rattle.language_schedules.proofs.ScheduleLemmas.{item_pushed, item_refused, step_pushed}
use Rattle.language_schedules.proofs.moves.push_item.Goals as goal

pub returns-in_err-process-clause-err : goal.returns-in_err-process-clause-err
returns-in_err-process-clause-err c =
    let make : ℕ → Move = if c.args.clears then Clear else Stamp in
    let counted : c.len.result ≡ length c.args.moves.now.items = omega (arith, c.len.ensures, c.args.moves.now.ok.0) in
    let p = err_from_is_err_and c.from_residual.result c.from_residual.ensures.1 in
    rw (p.1, p.2) (λ not_memory. item_refused make _ _ _ c.args.item _ c.len.result counted c.in_err-process.ensures.err)

pub returns-clause-ok : goal.returns-clause-ok
returns-clause-ok c =
    let make : ℕ → Move = if c.args.clears then Clear else Stamp in
    let counted : c.len.result ≡ length c.args.moves.now.items = omega (arith, c.len.ensures, c.args.moves.now.ok.0) in
    item_pushed make _ _ _ _ c.args.item _ _ _ _ counted c.in_ok-process.ensures.ok c.move_of-made.ensures c.moves-test.false c.moves.auto.counter-end c.moves.invariant

pub moves-preserved : goal.moves-preserved
moves-preserved c = step_pushed _ _ _ _ _ c.moves.invariant c.in_ok-push.ensures.items
