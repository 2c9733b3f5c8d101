use Rattle.std.proofs.Common.{◌≡◌, ◌+◌, ap, arith}
use Rattle.tick_kinds.proofs.Offered.{branch_lent, repeat_lent}
use Rattle.tick_kinds.specs.Resolved.{resolved_expression, resolved_statement, resolved_block}
use Rattle.tick_lower.specs.Lowered.{expression_length, statement_length, block_length}
use Rattle.tick_lower.proofs.Emitted.{no_statement}
use Rattle.tick_lower.proofs.length.+length.Goals as goal

pub statement_length-returns-in-If : goal.statement_length-returns-in-If
statement_length-returns-in-If t c =
    let parts : statement_length (resolved_statement c.args.statement.now)
    ≡ expression_length (resolved_expression c.in-If.test) + block_length (resolved_block c.deref.result.now) + block_length (resolved_block c.deref-in-If.result.now) + 2 =
    ap statement_length (branch_lent c.args.statement.now c.in-If.test c.in-If.first c.in-If.second c.deref.result.now c.deref-in-If.result.now c.in-If.is c.deref.ensures.value c.deref-in-If.ensures.value) in
    omega arith

pub statement_length-returns-in-While : goal.statement_length-returns-in-While
statement_length-returns-in-While t c =
    let parts : statement_length (resolved_statement c.args.statement.now)
    ≡ expression_length (resolved_expression c.in-While.test) + block_length (resolved_block c.deref-in-While.result.now) + 2 =
    ap statement_length (repeat_lent c.args.statement.now c.in-While.test c.in-While.body c.deref-in-While.result.now c.in-While.is c.deref-in-While.ensures.value) in
    omega arith

pub block_length-returns : goal.block_length-returns
block_length-returns t c =
    let over = no_statement c.args.statements.now c.loop-statement.statement-index c.loop-statement-test.false in
    omega (arith, ap block_length over)
