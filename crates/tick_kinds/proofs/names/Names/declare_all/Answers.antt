use Rattle.std.proofs.Common.{◌∙◌, ap}
use Rattle.std.proofs.lemmas.Result.{err_from_is_err_and}
use Rattle.tick_kinds.proofs.Declaring.{next_name, no_name, declared_all, declared_one, declared_none}
use Rattle.tick_kinds.proofs.names.Names.declare_all.Goals as goal
use Rattle.tick_kinds.specs.prover.Checked.{checked_declarations}
use Rattle.tick_kinds.specs.prover.Table.{slot_at}

pub loop-number-preserved : goal.loop-number-preserved
loop-number-preserved c =
    c.loop-number.invariant
    ∙ ap (λ ds. checked_declarations ds (slot_at c.loop-number.self.slots)) (next_name c.args.kind c.args.section.now c.loop-number.number c.index-section-number.result c.loop-number-test.true c.index-section-number.is)
    ∙ declared_one _ _ _ _ c.in_ok-declare.ensures

pub returns : goal.returns
returns c =
    c.loop-number.invariant
    ∙ ap (λ ds. checked_declarations ds (slot_at c.loop-number.self.slots)) (no_name c.args.kind c.args.section.now c.loop-number.number c.loop-number-test.false)
    ∙ declared_all _

pub returns-in_err-declare : goal.returns-in_err-declare
returns-in_err-declare c =
    let p = err_from_is_err_and c.from_residual.result c.from_residual.ensures.1 in
    let is = c.loop-number.invariant
    ∙ ap (λ ds. checked_declarations ds (slot_at c.loop-number.self.slots)) (next_name c.args.kind c.args.section.now c.loop-number.number c.index-section-number.result c.loop-number-test.true c.index-section-number.is) in
    rw (p.1, p.2, is) (declared_none _ _ _ _ c.in_err-declare.ensures)
