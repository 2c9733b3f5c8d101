use Rattle.std.proofs.Common.{◌≡◌, IfOk, ap, ◌∙◌, subst, arith, length, get_or}
use Rattle.std.proofs.lemmas.List.{length-replicate}
use Rattle.base.specs.Observables.{observed}
use Rattle.code_machine.specs.Machine.{code_run, code_step, run_of, start_process, observables}
use Rattle.code_machine.proofs.Steps.{run_more, run_done}
use Rattle.code_machine.proofs.machine.run.Goals as goal

pub loop-p-init : goal.loop-p-init
loop-p-init c =
    let code = c.args.code.now in (
      ap (code_run code.sizes.processes code.instructions c.args.schedule.now) c.in_ok-machine.ensures.start,
      c.in_ok-machine.ensures.code,
      ap (λ s. length s.processes) c.in_ok-machine.ensures.start ∙ length-replicate code.sizes.processes (start_process code.sizes),
    )

pub step-requires : goal.step-requires
step-requires c = omega (arith, c.requires c.loop-p.p-index 0 c.loop-p-test.true, c.loop-p.invariant.2)

pub loop-p-preserved : goal.loop-p-preserved
loop-p-preserved c =
    let code = c.args.code.now in
    let m = c.loop-p.machine in
    let step =
    c.in_ok-step.ensures.ok
    ∙ ap (λ x. code_step x.sizes.processes x.instructions (get_or c.args.schedule.now c.loop-p.p-index 0) m.state) c.loop-p.invariant.1 in (
      run_more code.sizes.processes code.instructions c.loop-p.p-index c.args.schedule.now m.state c.step.new.self.state c.loop-p-test.true step
          ∙ c.loop-p.invariant.0,
      c.step.ensures.code ∙ c.loop-p.invariant.1,
      c.step.ensures.processes ∙ c.loop-p.invariant.2,
    )

pub returns : goal.returns
returns c =
    let code = c.args.code.now in
    let done : c.loop-p.p-index ≡ length c.args.schedule.now = omega arith in
    subst (λ s. IfOk c.into_outcome.result (λ outcome. observed outcome ≡ observables s))
    (run_done code.sizes.processes code.instructions c.loop-p.p-index c.args.schedule.now c.loop-p.machine.state (run_of code.sizes code.instructions c.args.schedule.now) done c.loop-p.invariant.0)
    c.into_outcome.ensures
