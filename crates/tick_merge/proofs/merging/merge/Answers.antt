use Rattle.std.proofs.Common.{◌≡◌, Result, Err, IfErr, IsErrAnd, subst, ap, sym, ◌∙◌, refl}
use Rattle.std.proofs.lemmas.Result.{err_from_is_err_and}
use Rattle.tick_merge.specs.Refusals.{IsFault}
use Rattle.tick_merge.specs.declared.fault.MergeFault.{MergeFault}
use Rattle.tick_merge.proofs.merging.merge.Goals as goal

-- a fault is handed on
handed_on : {X : Type 0} (result : Result X MergeFault) (fault : MergeFault) (P : MergeFault → Type 0) → IsErrAnd result (λ e. e ≡ fault) → P fault → IfErr result P
handed_on {X} result fault P ends holds =
    let told = err_from_is_err_and result ends in
    subst (λ (r : Result X MergeFault). IfErr r P) (sym (told.1 ∙ ap (λ e. Err e) told.2)) holds

pub returns-in_err-take_all-clause-err : goal.returns-in_err-take_all-clause-err
returns-in_err-take_all-clause-err c =
    handed_on c.from_residual-in_err-take_all.result c.in_err-take_all.field-0.0 (IsFault c.args.code.now c.args.turns.now c.args.history.now)
    c.from_residual-in_err-take_all.ensures.1 (c.in_err-take_all.ensures.err c.args.turns.now c.in_ok-merging.ensures.ok)

pub spend_all-requires : goal.spend_all-requires
spend_all-requires c = record { taken = (c.args.turns.now, c.args.history.now, c.in_ok-take_all.ensures.ok c.args.turns.now c.in_ok-merging.ensures.ok) }

pub returns-in_err-spend_all-clause-err : goal.returns-in_err-spend_all-clause-err
returns-in_err-spend_all-clause-err c =
    handed_on c.from_residual-in_err-spend_all.result c.in_err-spend_all.field-0.0 (IsFault c.args.code.now c.args.turns.now c.args.history.now)
    c.from_residual-in_err-spend_all.ensures.1
    (c.in_err-spend_all.ensures.err c.args.turns.now c.args.history.now (c.in_ok-take_all.ensures.ok c.args.turns.now c.in_ok-merging.ensures.ok) refl)

pub returns-clause-legal : goal.returns-clause-legal
returns-clause-legal c =
    (c.in_ok-spend_all.ensures.ok c.args.turns.now c.args.history.now (c.in_ok-take_all.ensures.ok c.args.turns.now c.in_ok-merging.ensures.ok)).legal

pub returns-clause-makes : goal.returns-clause-makes
returns-clause-makes c =
    (c.in_ok-spend_all.ensures.ok c.args.turns.now c.args.history.now (c.in_ok-take_all.ensures.ok c.args.turns.now c.in_ok-merging.ensures.ok)).makes

pub returns-clause-whole : goal.returns-clause-whole
returns-clause-whole c =
    (c.in_ok-spend_all.ensures.ok c.args.turns.now c.args.history.now (c.in_ok-take_all.ensures.ok c.args.turns.now c.in_ok-merging.ensures.ok)).whole
