use Rattle.std.proofs.Common.{◌∙◌}
use Rattle.language_questions.specs.Lines.{asked_of}
use Rattle.ticklab_verdicts.specs.Lasso.{IsWayUnchecked, of_file}
use Rattle.ticklab_verdicts.proofs.Looped.{both_in_range, way_checked_by, way_unread}
use Rattle.ticklab_files.specs.Ways.{held}
use Rattle.ticklab_files.proofs.ProgramFiles.{file_of}
use Rattle.ticklab_files.proofs.Responding.{refused_as, stopped_by}
use Rattle.ticklab_verdicts.proofs.lasso.way_checked.Goals as goal

pub returns-in_err-spelled-clause-refused : goal.returns-in_err-spelled-clause-refused
returns-in_err-spelled-clause-refused c =
    stopped_by (IsWayUnchecked c.args.name.now c.args.input.now c.args.from.now (held c.args.given.now)) _
    c.from_residual.result c.from_residual.ensures.1 (refused_as _ (λ report told. of_file told) c.in_err-spelled.ensures.refused)

pub returns-in_err-way-clause-refused : goal.returns-in_err-way-clause-refused
returns-in_err-way-clause-refused c =
    way_unread c.args.name.now c.args.input.now c.args.from.now (held c.args.given.now)
    (file_of _ _ _ c.in_ok-spelled.ensures.spelled.0 c.in_ok-spelled.ensures.questions) c.processes.result c.processes.ensures.count
    c.from_residual-in_err-way.result _ c.from_residual-in_err-way.ensures.1 c.in_err-way.ensures.refused

pub lasso_found-requires-clause-prefix : goal.lasso_found-requires-clause-prefix
lasso_found-requires-clause-prefix c =
    let way = c.in_ok-way.way in
    both_in_range c.processes.result _ c.processes.ensures.count way.schedule.items way.lead_in.items c.as_slice-prefix.result.now
    c.in_ok-way.ensures.schedule c.in_ok-way.ensures.lead_in (c.as_slice-prefix.ensures.value ∙ c.in_ok-prefix.ensures.value)

pub returns-clause-ok : goal.returns-clause-ok
returns-clause-ok c =
    let asked = asked_of c.in_ok-spelled.questions in
    let a = c.in_ok-spelled.spelled.program in
    let file = file_of c.args.input.now a asked c.in_ok-spelled.ensures.spelled.0 c.in_ok-spelled.ensures.questions in
    let way = c.in_ok-way.way in
    way_checked_by c.args.input.now (held c.args.given.now) file c.processes.result c.processes.ensures.count
    way.schedule.items way.lead_in.items way.cycle.items c.as_slice-prefix.result.now c.as_slice-cycle.result.now c.in_ok-way.ensures.ok
    (c.as_slice-prefix.ensures.value ∙ c.in_ok-prefix.ensures.value) (c.as_slice-cycle.ensures.value ∙ c.in_ok-prefix.ensures.cycle)
    c.asked_in-asked.result c.asked_in-asked.ensures c.in_ok-lasso_found.field-0 c.in_ok-lasso_found.ensures
