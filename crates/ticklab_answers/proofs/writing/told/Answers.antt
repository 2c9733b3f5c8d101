use Rattle.std.proofs.Common.{◌++◌, ℕ, List, subst}
use Rattle.ticklab_answers.specs.Colours.{shown_as}
use Rattle.ticklab_files.proofs.Faulted.{faulty_by}
use Rattle.ticklab_files.specs.Faults.{IsOfOutput}
use Rattle.ticklab_answers.proofs.Written.{of_first, of_second}
use Rattle.ticklab_answers.proofs.writing.told.Goals as goal

pub returns-in_err-write_shown-clause-err : goal.returns-in_err-write_shown-clause-err
returns-in_err-write_shown-clause-err g c =
    let colours = c.args.colours in
    let out = shown_as colours.out c.args.response.now.out.items in
    let told = shown_as colours.err c.args.response.now.told.items in
    faulty_by (IsOfOutput (out ++ told)) _ c.from_residual.result c.from_residual.ensures.1
    (of_first out told _ (subst (λ (text : List ℕ). IsOfOutput (shown_as colours.out text) c.in_err-write_shown.field-0.0) c.as_slice.ensures.value
    c.in_err-write_shown.ensures.err))

pub returns-in_err-write_shown-2-clause-err : goal.returns-in_err-write_shown-2-clause-err
returns-in_err-write_shown-2-clause-err g c =
    let colours = c.args.colours in
    let out = shown_as colours.out c.args.response.now.out.items in
    let told = shown_as colours.err c.args.response.now.told.items in
    faulty_by (IsOfOutput (out ++ told)) _ c.from_residual-in_err-write_shown-2.result c.from_residual-in_err-write_shown-2.ensures.1
    (of_second out told _ (subst (λ (text : List ℕ). IsOfOutput (shown_as colours.err text) c.in_err-write_shown-2.field-0.0) c.as_slice-2.ensures.value
    c.in_err-write_shown-2.ensures.err))
