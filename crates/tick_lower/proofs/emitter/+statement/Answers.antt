-- How the goals of the functions that emit statements are met: `emit_branch`, `emit_repeat`, `emit_statement` and
-- `emit_block`.
-- The idea. All lemmas are those of `Emitted.antt`. The lengths there (`long_tested` and its like) show that each place
-- fits. `patch_branch` and `patch_repeat` say that the code is that of the statement, once its jumps are written.
-- `emit_statement` has the parts of a statement behind references (`branch_lent`, `repeat_lent`). `emit_block` is a loop,
-- with what `Emitting` says as its invariant.
-- Read `emit_branch-returns` first, then `emit_block-loop-statement-preserved`.
use Rattle.std.proofs.Common.{◌≡◌, ℕ, ◌+◌, ◌∙◌, ◌++◌, ap, arith, length, sym, drop, subst}
use Rattle.std.specs.Prelude.{slice_set, OnOk}
use Rattle.code_core.specs.declared.instr.Instr.TheVariants as I
use Rattle.tick_kinds.proofs.Offered.{branch_lent, repeat_lent}
use Rattle.tick_kinds.specs.Resolved.{resolved_expression, resolved_statement, resolved_block}
use Rattle.tick_lower.specs.Lowered.{expression_length, statement_length, block_length, statement_code}
use Rattle.tick_lower.proofs.Emitted.{long_block, long_tested, long_guarded, long_closed, patch_branch, patch_repeat, next_statement, no_statement, emitting_start, emitting_shorter, emitting_fits, emitting_more, emitting_end}
use Rattle.tick_lower.proofs.emitter.+statement.Goals as goal
use Rattle.tick_lower.proofs.emitter.+statement.Goals.{emit_branch-After-deref-3}

pub emit_branch-emit_block-requires : goal.emit_branch-emit_block-requires
emit_branch-emit_block-requires t c =
    (omega arith, omega (arith, long_tested (resolved_expression c.args.test.now) c.args.code.now.items _ _ _ c.in_ok-emit_expression.ensures c.in_ok-emit.ensures))

pub emit_branch-next_place-past_second-requires : goal.emit_branch-next_place-past_second-requires
emit_branch-next_place-past_second-requires t c =
    let long =
    long_guarded (resolved_expression c.args.test.now) (resolved_block c.args.first.now) c.args.code.now.items _ _ _ _
    c.in_ok-emit_expression.ensures c.in_ok-emit.ensures c.in_ok-emit_block.ensures in
    omega (arith, long)

-- how long the code is before the second block
closed : (t : ℕ) (c : goal.emit_branch-After-deref-3 t)
    → length c.emit-2.new.code.items ≡ length c.args.code.now.items + expression_length (resolved_expression c.args.test.now) + 1 + block_length (resolved_block c.args.first.now) + 1
closed t c =
    long_closed (resolved_expression c.args.test.now) (resolved_block c.args.first.now) c.args.code.now.items _ _ _ _ _ _
    c.in_ok-emit_expression.ensures c.in_ok-emit.ensures c.in_ok-emit_block.ensures c.in_ok-emit-2.ensures

pub emit_branch-next_place-second_place-requires : goal.emit_branch-next_place-second_place-requires
emit_branch-next_place-second_place-requires t c = omega (arith, closed t c)

pub emit_branch-emit_block-requires-2 : goal.emit_branch-emit_block-requires-2
emit_branch-emit_block-requires-2 t c = (omega arith, omega (arith, closed t (goal.at.emit_branch-emit_block-requires-2 t c).After-deref-3))

pub emit_branch-next_place-end-requires : goal.emit_branch-next_place-end-requires
emit_branch-next_place-end-requires t c =
    omega (arith, closed t (goal.at.emit_branch-next_place-end-requires t c).After-deref-3, long_block _ c.emit-2.new.code.items (resolved_block c.args.second.now) c.in_ok-emit_block-2.ensures)

pub emit_branch-returns : goal.emit_branch-returns
emit_branch-returns t c =
    c.patch-2.ensures
    ∙ ap (λ code. slice_set code c.next_place-past_second.result (I.Jump c.next_place-end.result)) c.patch.ensures
    ∙ patch_branch (resolved_expression c.args.test.now) (resolved_block c.args.first.now) (resolved_block c.args.second.now) c.args.code.now.items _ _ _ _ _ _ _ _ _ _ _
    c.in_ok-emit_expression.ensures (c.next_place-to_second.ensures ∙ ap length c.deref.ensures.value) c.in_ok-emit.ensures c.in_ok-emit_block.ensures (c.next_place-past_second.ensures ∙ ap length c.deref-2.ensures.value)
    c.in_ok-emit-2.ensures (c.next_place-second_place.ensures ∙ ap length c.deref-3.ensures.value) c.in_ok-emit_block-2.ensures (c.next_place-end.ensures ∙ ap length c.deref-4.ensures.value)

pub emit_repeat-emit_block-requires : goal.emit_repeat-emit_block-requires
emit_repeat-emit_block-requires t c =
    (omega arith, omega (arith, long_tested (resolved_expression c.args.test.now) c.args.code.now.items _ _ _ c.in_ok-emit_expression.ensures c.in_ok-emit.ensures))

pub emit_repeat-next_place-end-requires : goal.emit_repeat-next_place-end-requires
emit_repeat-next_place-end-requires t c =
    omega (
      arith,
      long_closed (resolved_expression c.args.test.now) (resolved_block c.args.body.now) c.args.code.now.items _ _ _ _ _ _
          c.in_ok-emit_expression.ensures c.in_ok-emit.ensures c.in_ok-emit_block.ensures c.in_ok-emit-2.ensures,
    )

pub emit_repeat-returns : goal.emit_repeat-returns
emit_repeat-returns t c =
    c.patch.ensures
    ∙ patch_repeat (resolved_expression c.args.test.now) (resolved_block c.args.body.now) c.args.code.now.items _ _ _ _ _ _ _ _
    (c.next_place-start.ensures ∙ ap length c.deref.ensures.value) c.in_ok-emit_expression.ensures (c.next_place-past_body.ensures ∙ ap length c.deref-2.ensures.value) c.in_ok-emit.ensures c.in_ok-emit_block.ensures
    c.in_ok-emit-2.ensures (c.next_place-end.ensures ∙ ap length c.deref-3.ensures.value)

pub emit_statement-emit_branch-requires : goal.emit_statement-emit_branch-requires
emit_statement-emit_branch-requires t c =
    let parts = branch_lent c.args.statement.now c.in-If.test c.in-If.first c.in-If.second c.deref.result.now c.deref-in-If.result.now c.in-If.is c.deref.ensures.value c.deref-in-If.ensures.value in
    (omega (arith, ap statement_length parts), omega (arith, ap statement_length parts))

pub emit_statement-emit_repeat-requires : goal.emit_statement-emit_repeat-requires
emit_statement-emit_repeat-requires t c =
    let parts = repeat_lent c.args.statement.now c.in-While.test c.in-While.body c.deref-in-While.result.now c.in-While.is c.deref-in-While.ensures.value in
    (omega (arith, ap statement_length parts), omega (arith, ap statement_length parts))

pub emit_statement-returns-in-If : goal.emit_statement-returns-in-If
emit_statement-returns-in-If t c =
    let parts = branch_lent c.args.statement.now c.in-If.test c.in-If.first c.in-If.second c.deref.result.now c.deref-in-If.result.now c.in-If.is c.deref.ensures.value c.deref-in-If.ensures.value in
    subst (λ s. OnOk c.emit_branch.result (c.emit_branch.new.code.items ≡ c.args.code.now.items ++ statement_code (length c.args.code.now.items) s)) (sym parts) c.emit_branch.ensures

pub emit_statement-returns-in-While : goal.emit_statement-returns-in-While
emit_statement-returns-in-While t c =
    let parts = repeat_lent c.args.statement.now c.in-While.test c.in-While.body c.deref-in-While.result.now c.in-While.is c.deref-in-While.ensures.value in
    subst (λ s. OnOk c.emit_repeat.result (c.emit_repeat.new.code.items ≡ c.args.code.now.items ++ statement_code (length c.args.code.now.items) s)) (sym parts) c.emit_repeat.ensures

pub emit_block-loop-statement-init : goal.emit_block-loop-statement-init
emit_block-loop-statement-init t c = emitting_start c.args.code.now.items (resolved_block c.args.statements.now) c.requires

pub emit_block-emit_statement-requires : goal.emit_block-emit_statement-requires
emit_block-emit_statement-requires t c =
    let rest = resolved_block (drop (c.loop-statement.statement-index + 1) c.args.statements.now) in
    let next = next_statement c.args.statements.now c.loop-statement.statement-index c.statement-item.result c.loop-statement-test.true c.statement-item.is in (
      omega (arith, emitting_shorter c.args.statements.now c.loop-statement.statement-index rest (resolved_statement c.statement-item.result) next),
      emitting_fits c.args.code.now.items c.loop-statement.code.items _ _ rest (resolved_statement c.statement-item.result) c.loop-statement.invariant next,
    )

pub emit_block-loop-statement-preserved : goal.emit_block-loop-statement-preserved
emit_block-loop-statement-preserved t c =
    let rest = resolved_block (drop (c.loop-statement.statement-index + 1) c.args.statements.now) in
    let next = next_statement c.args.statements.now c.loop-statement.statement-index c.statement-item.result c.loop-statement-test.true c.statement-item.is in
    emitting_more c.args.code.now.items c.loop-statement.code.items c.emit_statement.new.code.items _ _ rest (resolved_statement c.statement-item.result) c.loop-statement.invariant next c.in_ok-emit_statement.ensures

pub emit_block-returns : goal.emit_block-returns
emit_block-returns t c =
    emitting_end c.args.code.now.items c.loop-statement.code.items _ _ c.loop-statement.invariant
    (no_statement c.args.statements.now c.loop-statement.statement-index c.loop-statement-test.false)
