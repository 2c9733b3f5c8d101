use Rattle.std.proofs.Common.{◌≡◌, IfOk, ap, ◌∙◌, subst, arith, length}
use Rattle.base.specs.Observables.{observed}
use Rattle.tick_kinds.specs.Resolution.{resolved}
use Rattle.tick_source.specs.Source.{source, source_run, observables}
use Rattle.tick_source.proofs.Steps.{run_more, run_done}
use Rattle.tick_source.proofs.machine.run.Goals as goal

pub loop-p-init : goal.loop-p-init
loop-p-init c =
    let a = resolved c.args.program.now in (
      ap (source_run a.processes c.args.schedule.now) c.in_ok-machine.ensures.start,
      c.in_ok-machine.ensures.processes,
    )

pub step-requires : goal.step-requires
step-requires c = omega (arith, c.requires c.loop-p.p-index 0 c.loop-p-test.true, c.loop-p.invariant.1)

pub loop-p-preserved : goal.loop-p-preserved
loop-p-preserved c =
    let a = resolved c.args.program.now in
    let m = c.loop-p.machine in (
      run_more a.processes c.loop-p.p-index c.args.schedule.now m c.step.new.self c.loop-p-test.true c.in_ok-step.ensures.ok c.loop-p.invariant.1
          ∙ c.loop-p.invariant.0,
      c.in_ok-step.ensures.processes ∙ c.loop-p.invariant.1,
    )

pub returns : goal.returns
returns c =
    let a = resolved c.args.program.now in
    let done : c.loop-p.p-index ≡ length c.args.schedule.now = omega arith in
    subst (λ s. IfOk c.into_outcome.result (λ o. observed o ≡ observables s))
    (run_done a.processes c.loop-p.p-index c.args.schedule.now c.loop-p.machine (source a c.args.schedule.now) done c.loop-p.invariant.0)
    c.into_outcome.ensures
