use Rattle.std.proofs.Common.{◌∙◌, List, Option, ap, map, option_map, subst, sym}
use Rattle.ticklab_trace.specs.Places.{Standing, standings, told_standing}
use Rattle.ticklab_trace.specs.declared.steps.StatementStep.{StatementStep}
use Rattle.ticklab_runs.specs.Breaking.{broken_at}
use Rattle.ticklab_runs.specs.Traces.{AreTold, AreToldWith}
use Rattle.ticklab_runs.specs.declared.breaking.BrokenLine.{BrokenLine}
use Rattle.ticklab_files.proofs.Responding.{then_ok}
use Rattle.ticklab_runs.proofs.tracing.program_trace.Goals as goal

pub returns : goal.returns
returns c =
    let a = c.args.spelled.now.program in
    let line = broken_at c.in-Some.line in
    let steps = c.args.run.now.steps.items in
    let tracing = c.args.tracing in
    then_ok c.told_with.result
    (λ out told. (
      c.in_ok-spots.ensures.tokens,
      c.in_ok-spots.ensures.spelled,
      subst (λ (found : Option BrokenLine). AreTold tracing (option_map broken_at found) a (standings c.args.text.now c.in_ok-spots.ensures.tokens a) c.args.parts steps out.items) (sym c.in-Some.is)
          (subst (λ (spots : List Standing). AreToldWith tracing line a spots c.args.parts steps out.items) (ap (map told_standing) c.as_slice-spots.ensures.value ∙ c.in_ok-spots.ensures.told)
          (subst (λ (shown : List StatementStep). AreToldWith tracing line a (map told_standing c.as_slice-spots.result.now) c.args.parts shown out.items) c.as_slice-steps.ensures.value told)),
    )) c.told_with.ensures
