use Rattle.tick_sim.proofs.Reached.{in_range, reached_step}
use Rattle.tick_sim.proofs.stepping.step_ends.Goals as goal

pub make_step-requires : goal.make_step-requires
make_step-requires c = in_range c.args.machine.now c.requires.reached c.args.p c.requires.process

pub returns-in-Some-clause-reached : goal.returns-in-Some-clause-reached
returns-in-Some-clause-reached c =
    reached_step c.args.machine.now c.requires.reached c.make_step.new.self c.args.p c.make_step.ensures.code
    c.in_ok-made.ensures.ok

pub returns-in-None-clause-reached : goal.returns-in-None-clause-reached
returns-in-None-clause-reached c =
    reached_step c.args.machine.now c.requires.reached c.make_step.new.self c.args.p c.make_step.ensures.code
    c.in_ok-made.ensures.ok
