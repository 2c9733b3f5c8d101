use Rattle.std.proofs.Common.{◌+◌, ◌*◌, drop}
use Rattle.tick_kinds.specs.Resolved.{resolved_expression, resolved_statement, resolved_block}
use Rattle.base.specs.Plain.{branch, repeat}
use Rattle.tick_lower.specs.Lowered.{statement_length, block_length}
use Rattle.tick_lower.proofs.Emitted.{Emitting}
use Rattle.tick_lower.proofs.emitter.+statement.Given as goal

-- The length of what is emitted falls from a statement to its blocks, and from a block to its statements.
abbrev pub decreases-emit_statement : goal.decreases-emit_statement
decreases-emit_statement l = 2 * statement_length (resolved_statement l.statement.now) + 1

abbrev pub decreases-emit_branch : goal.decreases-emit_branch
decreases-emit_branch l =
    2 * statement_length (branch (resolved_expression l.test.now) (resolved_block l.first.now) (resolved_block l.second.now))

abbrev pub decreases-emit_repeat : goal.decreases-emit_repeat
decreases-emit_repeat l = 2 * statement_length (repeat (resolved_expression l.test.now) (resolved_block l.body.now))

abbrev pub decreases-emit_block : goal.decreases-emit_block
decreases-emit_block l = 2 * block_length (resolved_block l.statements.now) + 2

abbrev pub invariant-emit_block-loop-statement : goal.invariant-emit_block-loop-statement
invariant-emit_block-loop-statement l =
    Emitting l.fn.code.items l.code.items (resolved_block l.statements) (resolved_block (drop l.statement-index l.statements))
