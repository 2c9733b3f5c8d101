use Rattle.stamp_calls.proofs.Calling.{stands_after}
use Rattle.stamp_calls.proofs.order.Order.after.Goals as goal

pub invariant_of-result : goal.invariant_of-result
invariant_of-result c = (stands_after c.args.pass.now c.args.word c.requires).ordered

pub returns-clause-tickets : goal.returns-clause-tickets
returns-clause-tickets c = stands_after c.args.pass.now c.args.word c.requires
