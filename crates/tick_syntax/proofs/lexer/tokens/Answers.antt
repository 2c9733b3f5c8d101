use Rattle.std.proofs.Common.{Err, sym, subst}
use Rattle.std.proofs.lemmas.Result.{err_from_is_err_and}
use Rattle.tick_syntax.specs.prover.ValuedTokens.{AreValues}
use Rattle.tick_syntax.proofs.TokensTold.{Tells, told_order, told_spelled, told_refused, told_plain, told_memory}
use Rattle.tick_syntax.proofs.lexer.tokens.Goals as goal
use Rattle.tick_syntax.proofs.lexer.tokens.Goals.{After-drop-valued}

values : (c : After-drop-valued) → AreValues c.args.text.now c.deref.result.now
values c = subst (AreValues c.args.text.now) (sym c.deref.ensures.value) c.in_ok-valued.ensures.ok.1

told : (c : After-drop-valued) → Tells c.args.text.now c.plain_tokens.result
told c = told_plain c.args.text.now c.deref.result.now c.plain_tokens.result c.in_ok-valued.ensures.ok.0 (values c) c.plain_tokens.ensures.ok c.plain_tokens.ensures.err

pub returns-clause-ok : goal.returns-clause-ok
returns-clause-ok c = (told c).ok

pub returns-clause-order : goal.returns-clause-order
returns-clause-order c = told_order c.args.text.now c.plain_tokens.result (told c)

pub returns-clause-err : goal.returns-clause-err
returns-clause-err c = (told c).err

pub returns-clause-spelled : goal.returns-clause-spelled
returns-clause-spelled c = told_spelled c.args.text.now c.plain_tokens.result (told c)

pub returns-clause-refused : goal.returns-clause-refused
returns-clause-refused c = told_refused c.args.text.now c.plain_tokens.result (told c)

pub returns-clause-memory : goal.returns-clause-memory
returns-clause-memory c =
    told_memory c.args.text.now c.deref.result.now c.plain_tokens.result c.in_ok-valued.ensures.ok.0 (values c) c.plain_tokens.ensures.none

pub returns-in_err-valued-clause-spelled : goal.returns-in_err-valued-clause-spelled
returns-in_err-valued-clause-spelled c =
    let p = err_from_is_err_and c.from_residual.result c.from_residual.ensures.1 in
    rw (p.1, p.2) (told_spelled c.args.text.now (Err _) (record { ok = tt; err = c.in_err-valued.ensures.err }))

pub returns-in_err-valued-clause-refused : goal.returns-in_err-valued-clause-refused
returns-in_err-valued-clause-refused c =
    let p = err_from_is_err_and c.from_residual.result c.from_residual.ensures.1 in
    rw (p.1, p.2) (told_refused c.args.text.now (Err _) (record { ok = tt; err = c.in_err-valued.ensures.err }))
