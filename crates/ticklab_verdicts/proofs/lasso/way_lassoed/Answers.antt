use Rattle.std.proofs.Common.{List, ℕ, subst}
use Rattle.ticklab_verdicts.specs.Lasso.{ChecksWay, IsWayChecked, IsWayUnchecked, way_checked, way_unchecked}
use Rattle.ticklab_files.specs.Ways.{Texts, held}
use Rattle.ticklab_files.proofs.Responding.{settled_with}
use Rattle.ticklab_runs.proofs.Ran.{read_texts}
use Rattle.ticklab_verdicts.proofs.lasso.way_lassoed.Goals as goal

pub returns-clause-ok : goal.returns-clause-ok
returns-clause-ok g c =
    let answered = c.way_checked-answered.ensures in
    let file = c.args.file.now in
    let from = c.in_ok-from.from.now in
    let given : Texts = held c.in_ok-from.given in
    let x = c.in_ok-settled.field-0 in
    read_texts g.F.Files.Reads g.F.Files.ReadsInput c.args.files.now c.bytes_of.new.files _ file c.args.way.now c.in_ok-input.input.items from
    given _ c.in_ok-input.ensures.ok c.is_input.result c.is_input.ensures c.in_ok-from.ensures.ok
    (subst (λ (bytes : List ℕ). ChecksWay file bytes from given x) c.as_slice.ensures.value
    (settled_with {P = IsWayChecked c.as_slice.result.now given} {R = ChecksWay file c.as_slice.result.now from given}
    {Q = IsWayUnchecked file c.as_slice.result.now from given} c.way_checked-answered.result x
    (λ x h. way_checked h) (λ x h. way_unchecked h) answered.ok answered.refused c.in_ok-settled.ensures))
