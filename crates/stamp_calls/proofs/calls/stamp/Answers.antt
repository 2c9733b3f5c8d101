use Rattle.std.proofs.Common.{◌∙◌, arith}
use Rattle.stamp_calls.proofs.Calling.{Trying, goes_on_twice, first_try, next_try, last_try, own_of_stamps}
use Rattle.stamp_calls.proofs.calls.stamp.Given as given
use Rattle.stamp_calls.proofs.calls.stamp.Goals as goal
use Rattle.stamp_calls.proofs.calls.stamp.Goals.{In-Won}

-- the tries before the one that is won
before : (g : given.Over) (c : In-Won g) → Trying c.args.table.now c.args.caller.now c.loop.order c.loop.caller
before g c =
    c.loop.invariant.4 c.args.caller.now (first_try c.args.table.now c.args.caller.now c.scan-order.new.caller c.scan-order.result c.requires.here
    c.scan-order.ensures.tickets c.scan-order.ensures.caller c.scan-order.ensures.own)

pub returns-in-Won-clause-caller : goal.returns-in-Won-clause-caller
returns-in-Won-clause-caller g c =
    goes_on_twice c.args.caller.now c.loop.caller c.try_stamp.new.caller (before g (goal.at.returns-in-Won-clause-caller g c).In-Won).goes c.in-Won.ensures.caller

pub returns-in-Won-clause-stamps : goal.returns-in-Won-clause-stamps
returns-in-Won-clause-stamps g c =
    last_try c.args.table.now c.args.caller.now c.loop.caller c.try_stamp.new.caller c.loop.order c.in-Won.won c.requires.here
    (omega (arith, c.n-n.ensures.count, c.n-n.ensures.at_most_six, c.scan-order.ensures.processes))
    (before g (goal.at.returns-in-Won-clause-stamps g c).In-Won) c.in-Won.ensures.answer c.in-Won.ensures.step

pub returns-in-Won-clause-own : goal.returns-in-Won-clause-own
returns-in-Won-clause-own g c =
    own_of_stamps c.args.caller.now c.try_stamp.new.caller c.in-Won.won
    (c.in-Won.ensures.caller.process ∙ (before g (goal.at.returns-in-Won-clause-own g c).In-Won).goes.process) (returns-in-Won-clause-stamps g c)

pub loop-preserved : goal.loop-preserved
loop-preserved g c = (
  tt,
  tt,
  c.in-Lost.ensures.caller.table ∙ c.loop.invariant.2,
  c.in-Lost.ensures.processes,
  λ old tries.
      next_try c.args.table.now old c.loop.caller c.try_stamp.new.caller c.loop.order c.in-Lost.found (c.loop.invariant.4 old tries)
      c.in-Lost.ensures.tickets c.in-Lost.ensures.caller c.in-Lost.ensures.own,
)
