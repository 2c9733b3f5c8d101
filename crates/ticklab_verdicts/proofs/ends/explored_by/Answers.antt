use Rattle.std.proofs.Common.{subst}
use Rattle.tick_kinds.specs.Resolution.{resolved}
use Rattle.searches_explore.specs.BySteps.{TellsEndsBy}
use Rattle.searches_explore.specs.Lines.{lines_of}
use Rattle.searches_explore.specs.declared.exploring.StepKind.{StepKind}
use Rattle.ticklab_verdicts.proofs.EndsSearched.{known_if}
use Rattle.ticklab_verdicts.proofs.Searched.{told_so}
use Rattle.ticklab_verdicts.proofs.ends.explored_by.Goals as goal

pub returns : goal.returns
returns g c =
    let task = c.args.task.now in
    let e = c.in_ok-explored.explored in
    let a = resolved task.search.spelled.now.program in
    let m = c.args.is_merged in
    let given = c.as_slice-properties.result.now in
    let told = subst (λ (k : StepKind). TellsEndsBy a (lines_of given) c.args.asked task.limits g.W.Watch.hears c.begin.new.self c.explore_ends.new.watch k e)
    c.kind_of-kind.ensures c.in_ok-explored.ensures in
    record {
      searched = told_so g.W.Progress.begins g.W.Progress.finds g.W.Watch.hears _ _ _ a given _ c.as_slice-properties.ensures.value task.limits e m c.begin.ensures told.0;
      known = known_if m a c.args.asked e told.1;
    }
