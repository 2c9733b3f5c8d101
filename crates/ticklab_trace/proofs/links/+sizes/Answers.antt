use Rattle.std.proofs.Common.{◌≡◌, ◌+◌, suc, ap, arith}
use Rattle.tick_kinds.proofs.Offered.{branch_lent, repeat_lent}
use Rattle.tick_kinds.specs.Resolved.{resolved_statement, resolved_block}
use Rattle.ticklab_trace.specs.Numbers.{size, size_of}
use Rattle.ticklab_trace.proofs.Linked.{no_statement}
use Rattle.ticklab_trace.proofs.links.+sizes.Goals as goal

pub size_of-returns-in-If : goal.size_of-returns-in-If
size_of-returns-in-If t c =
    let parts : size_of (resolved_statement c.args.statement.now) ≡ suc (size (resolved_block c.deref.result.now) + size (resolved_block c.deref-in-If.result.now)) =
    ap size_of (branch_lent c.args.statement.now c.in-If.field-0 c.in-If.then_block c.in-If.else_block c.deref.result.now c.deref-in-If.result.now c.in-If.is c.deref.ensures.value c.deref-in-If.ensures.value) in
    omega arith

pub size_of-returns-in-While : goal.size_of-returns-in-While
size_of-returns-in-While t c =
    let parts : size_of (resolved_statement c.args.statement.now) ≡ suc (size (resolved_block c.deref-in-While.result.now)) =
    ap size_of (repeat_lent c.args.statement.now c.in-While.field-0 c.in-While.block c.deref-in-While.result.now c.in-While.is c.deref-in-While.ensures.value) in
    omega arith

pub size-returns : goal.size-returns
size-returns t c =
    let over = no_statement c.args.block.now c.loop-statement.statement-index c.loop-statement-test.false in
    omega (arith, ap size over)
