use Rattle.std.proofs.Common.{◌++◌, ◌∙◌, ap, sym, subst, get_or}
use Rattle.tick_kinds.specs.Resolution.{resolved}
use Rattle.tick_source.specs.Source.{SourceState, source_start}
use Rattle.code_machine.specs.Machine.{code_start}
use Rattle.tick_sim.specs.Maps.{lifted, lifted_from}
use Rattle.tick_sim.proofs.Maps.{expanded, lifted_more, running_commits, item_rests}
use Rattle.tick_sim.proofs.Reached.{reached_start}
use Rattle.tick_sim.proofs.Start.{start_between}
use Rattle.tick_sim.proofs.States.{AllBetween}
use Rattle.tick_sim.proofs.lifting.lift.Goals as goal

pub loop-p-init : goal.loop-p-init
loop-p-init c =
    let a = resolved c.args.program.now in
    let start =
    subst (λ code. (s : SourceState) × AllBetween code.sizes.processes code.instructions s (code_start code.sizes))
    (sym c.requires.code) (source_start a, start_between a) in
    record {
      led = ap (λ s. s ++ lifted_from c.args.code.now.sizes.processes c.args.code.now.instructions c.args.schedule.now
          c.in_ok-machine.machine.state) c.new-steps.ensures.items
          ∙ ap (lifted_from c.args.code.now.sizes.processes c.args.code.now.instructions c.args.schedule.now)
          c.in_ok-machine.ensures.start;
      reached = reached_start c.args.code.now c.in_ok-machine.machine c.in_ok-machine.ensures.code
          c.sizes-sizes.ensures.verified c.in_ok-machine.ensures.start;
      same = c.in_ok-machine.ensures.code;
      beside = start.0;
      between = subst (AllBetween c.args.code.now.sizes.processes c.args.code.now.instructions start.0)
          (sym c.in_ok-machine.ensures.start) start.1;
    }

pub lead_through-requires-clause-commits : goal.lead_through-requires-clause-commits
lead_through-requires-clause-commits c = λ runs.
    let ends =
    running_commits c.args.code.now.sizes.processes c.args.code.now.instructions
    (get_or c.args.schedule.now c.loop-p.p-index 0) c.loop-p.invariant.beside c.loop-p.machine.state c.loop-p.invariant.between
    runs in
    (ends.0, ends.1)

pub loop-p-preserved : goal.loop-p-preserved
loop-p-preserved c =
    let code = c.args.code.now in
    let rests =
    item_rests code.sizes.processes code.instructions (get_or c.args.schedule.now c.loop-p.p-index 0)
    c.loop-p.invariant.beside c.loop-p.machine.state c.lead_through.new.machine.state
    c.loop-p.invariant.between c.in_ok-lead_through.ensures.state in
    record {
      led = lifted_more code.sizes.processes code.instructions c.loop-p.p-index c.args.schedule.now c.loop-p.steps.items
          c.lead_through.new.steps.items c.loop-p.machine.state
          c.lead_through.new.machine.state (lifted code.sizes code.instructions c.args.schedule.now) c.loop-p-test.true
          c.in_ok-lead_through.ensures.state
          c.in_ok-lead_through.ensures.steps c.loop-p.invariant.led;
      reached = c.lead_through.ensures.reached;
      same = c.lead_through.ensures.code ∙ c.loop-p.invariant.same;
      beside = rests.0;
      between = rests.1;
    }

pub returns : goal.returns
returns c =
    let all = expanded (resolved c.args.program.now) c.args.code.now _ _ _ _ c.requires.code c.requires.processes c.loop-p-test.false c.loop-p.auto.p-index-end c.loop-p.invariant.led in
    record { lifted = all.is; seen = all.shows; lawful = all.lawful }
