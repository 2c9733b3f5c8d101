use Rattle.language_questions.specs.Lines.{asked_of}
use Rattle.ticklab_verdicts.specs.Lasso.{IsUnchecked, file_refused}
use Rattle.ticklab_verdicts.proofs.Looped.{checked_by, cycle_unread, prefix_unread}
use Rattle.ticklab_files.proofs.ProgramFiles.{file_of}
use Rattle.ticklab_files.proofs.Responding.{refused_as, stopped_by}
use Rattle.ticklab_verdicts.proofs.lasso.checked.Goals as goal

pub returns-in_err-spelled-clause-refused : goal.returns-in_err-spelled-clause-refused
returns-in_err-spelled-clause-refused c =
    stopped_by (IsUnchecked c.args.name.now c.args.input.now c.args.first_from.now c.args.first.now c.args.second_from.now c.args.second.now) _
    c.from_residual.result c.from_residual.ensures.1 (refused_as _ (λ report told. file_refused told) c.in_err-spelled.ensures.refused)

pub returns-in_err-prefix-clause-refused : goal.returns-in_err-prefix-clause-refused
returns-in_err-prefix-clause-refused c =
    prefix_unread c.args.name.now c.args.input.now c.args.first_from.now c.args.first.now c.args.second_from.now c.args.second.now
    (file_of _ _ _ c.in_ok-spelled.ensures.spelled.0 c.in_ok-spelled.ensures.questions) c.processes-n.result c.processes-n.ensures.count
    c.from_residual-in_err-prefix.result _ c.from_residual-in_err-prefix.ensures.1 c.in_err-prefix.ensures.refused

pub returns-in_err-cycle-clause-refused : goal.returns-in_err-cycle-clause-refused
returns-in_err-cycle-clause-refused c =
    cycle_unread c.args.name.now c.args.input.now c.args.first_from.now c.args.first.now c.args.second_from.now c.args.second.now
    (file_of _ _ _ c.in_ok-spelled.ensures.spelled.0 c.in_ok-spelled.ensures.questions) c.processes-n.result c.processes-n.ensures.count
    c.from_residual-in_err-cycle.result _ c.from_residual-in_err-cycle.ensures.1 c.in_ok-prefix.prefix.items c.in_ok-prefix.ensures.ok c.in_err-cycle.ensures.refused

pub returns-clause-ok : goal.returns-clause-ok
returns-clause-ok c =
    let asked = asked_of c.in_ok-spelled.questions in
    let a = c.in_ok-spelled.spelled.program in
    let file = file_of c.args.input.now a asked c.in_ok-spelled.ensures.spelled.0 c.in_ok-spelled.ensures.questions in
    checked_by c.args.input.now c.args.first.now c.args.second.now file c.processes-n.result c.processes-n.ensures.count
    c.in_ok-prefix.prefix.items c.in_ok-cycle.cycle.items c.as_slice-prefix.result.now c.as_slice-cycle.result.now
    c.in_ok-prefix.ensures.ok c.in_ok-cycle.ensures.ok c.as_slice-prefix.ensures.value c.as_slice-cycle.ensures.value
    c.asked_in-asked.result c.asked_in-asked.ensures c.in_ok-lasso_found.field-0
    c.in_ok-lasso_found.ensures
