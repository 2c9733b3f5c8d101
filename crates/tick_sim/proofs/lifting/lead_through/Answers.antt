use Rattle.std.proofs.Common.{◌∙◌, ◌++◌, ◌<◌, refl, ap, sym, subst, length, arith}
use Rattle.std.proofs.lemmas.List.{append-nil}
use Rattle.code_machine.specs.Machine.{code_run}
use Rattle.tick_sim.specs.Maps.{steps_of}
use Rattle.tick_sim.proofs.Maps.{LeadsOn, leads_on, stopped_makes_none}
use Rattle.tick_sim.proofs.Reached.{in_range, step_is, commit_is}
use Rattle.tick_sim.proofs.lifting.lead_through.Goals as goal
use Rattle.tick_sim.proofs.lifting.lead_through.Goals.{In_ok-step_ends}

pub status-requires : goal.status-requires
status-requires c =
    in_range c.args.machine.now c.requires.reached c.args.p
    (subst (λ code. c.args.p < code.sizes.processes) (sym c.requires.code) c.requires.process)

pub returns-in_default : goal.returns-in_default
returns-in_default c =
    let code = c.args.code.now in
    let d = c.args.machine.now.state in
    let none =
    stopped_makes_none code.sizes.processes code.instructions c.args.p d c.status.result c.status.ensures
    c.in_default.not-Running in
    record {
      steps = sym (append-nil c.args.steps.now.items) ∙ ap (λ t. c.args.steps.now.items ++ t) (sym none);
      state = ap (λ t. code_run code.sizes.processes code.instructions t d) (sym none);
      reached = c.requires.reached;
      code = refl;
    }

-- where a step of the loop leads
leads : (c : In_ok-step_ends) → LeadsOn c.args.code.now.sizes.processes c.args.code.now.instructions c.args.p c.loop.counter c.push.new.self.items
    (c.args.steps.now.items ++ steps_of c.args.code.now.sizes.processes c.args.code.now.instructions c.args.p c.args.machine.now.state)
    c.loop.machine.state c.step_ends.new.machine.state
    (code_run c.args.code.now.sizes.processes c.args.code.now.instructions
    (steps_of c.args.code.now.sizes.processes c.args.code.now.instructions c.args.p c.args.machine.now.state) c.args.machine.now.state)
leads c =
    let code = c.args.code.now in
    let before = c.loop.invariant in
    let inside : c.loop.counter < length code.instructions = omega (arith, c.loop-test.true, c.len-end.ensures.count) in
    leads_on code.sizes.processes code.instructions c.args.p before.left c.loop.counter c.loop.steps.items c.push.new.self.items _ c.loop.machine.state
    c.step_ends.new.machine.state _ inside (step_is code c.loop.machine before.same c.args.p _ c.in_ok-step_ends.ensures.state)
    c.in_ok-push.ensures.items before.commits before.steps before.leads

pub returns-then-branch : goal.returns-then-branch
returns-then-branch c =
    let ends =
    (leads (goal.at.returns-then-branch c).In_ok-step_ends).is_last
    (commit_is c.args.code.now c.loop.machine c.loop.invariant.same c.args.p _ c.in_ok-step_ends.ensures.ends ∙ c.if-branch.true) in
    record {
      steps = ends.0;
      state = ends.1;
      reached = c.step_ends.ensures.reached;
      code = c.step_ends.ensures.code ∙ c.loop.invariant.same ∙ sym c.requires.code;
    }

pub loop-preserved : goal.loop-preserved
loop-preserved c =
    let more =
    (leads (goal.at.loop-preserved c).In_ok-step_ends).goes_on
    (commit_is c.args.code.now c.loop.machine c.loop.invariant.same c.args.p _ c.in_ok-step_ends.ensures.ends ∙ c.if-branch.false) in
    record {
      reached = c.step_ends.ensures.reached;
      same = c.step_ends.ensures.code ∙ c.loop.invariant.same;
      left = more.0;
      commits = more.1;
      steps = more.2;
      leads = more.3;
    }
