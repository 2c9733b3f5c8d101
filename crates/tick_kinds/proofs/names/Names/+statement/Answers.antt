use Rattle.std.proofs.Common.{◌≡◌, ◌∙◌, ◌+◌, Ok, ap, sym, drop, subst}
use Rattle.std.proofs.lemmas.Result.{err_from_is_err_and}
use Rattle.tick_kinds.proofs.Steps.{first_fails, second_fails, body_fails, branch_checked, repeat_checked, goes_on, ends, checked_after}
use Rattle.base.proofs.Offered.{next_statement, no_statement}
use Rattle.tick_kinds.specs.prover.Checked.{Fails, checked_block}
use Rattle.tick_kinds.specs.Resolved.{resolved_block}
use Rattle.tick_kinds.specs.prover.Table.{slot_at}
use Rattle.base.specs.Plain.{block_of}
use Rattle.tick_kinds.proofs.names.Names.+statement.Goals as goal

pub statement-returns-in_err-first-in-If : goal.statement-returns-in_err-first-in-If
statement-returns-in_err-first-in-If t c =
    let p = err_from_is_err_and c.from_residual-in_err-first-in-If.result c.from_residual-in_err-first-in-If.ensures.1 in
    rw (p.1, p.2) (first_fails (slot_at c.args.self.now.slots) _ _ _ _ _ _ c.in-If.is c.in_ok-test-in-If.ensures
    (subst (λ xs. Fails c.in_err-first-in-If.field-0.0 (checked_block (slot_at c.args.self.now.slots) (block_of xs))) c.deref.ensures.value c.in_err-first-in-If.ensures))

pub statement-returns-in_err-block-in-If : goal.statement-returns-in_err-block-in-If
statement-returns-in_err-block-in-If t c =
    let p = err_from_is_err_and c.from_residual-in_err-block-in-If.result c.from_residual-in_err-block-in-If.ensures.1 in
    rw (p.1, p.2) (second_fails (slot_at c.args.self.now.slots) _ _ _ _ _ _ _ c.in-If.is c.in_ok-test-in-If.ensures
    (subst (λ xs. checked_block (slot_at c.args.self.now.slots) (block_of xs) ≡ Ok (resolved_block c.in_ok-first-in-If.first.items)) c.deref.ensures.value c.in_ok-first-in-If.ensures)
    (subst (λ xs. Fails c.in_err-block-in-If.field-0.0 (checked_block (slot_at c.args.self.now.slots) (block_of xs))) c.deref-in-If.ensures.value c.in_err-block-in-If.ensures))

pub statement-returns-in_err-block-in-While : goal.statement-returns-in_err-block-in-While
statement-returns-in_err-block-in-While t c =
    let p = err_from_is_err_and c.from_residual-in_err-block-in-While.result c.from_residual-in_err-block-in-While.ensures.1 in
    rw (p.1, p.2) (body_fails (slot_at c.args.self.now.slots) _ _ _ _ _ c.in-While.is c.in_ok-test-in-While.ensures
    (subst (λ xs. Fails c.in_err-block-in-While.field-0.0 (checked_block (slot_at c.args.self.now.slots) (block_of xs))) c.deref-in-While.ensures.value c.in_err-block-in-While.ensures))

pub statement-returns-in_ok-block-in-If : goal.statement-returns-in_ok-block-in-If
statement-returns-in_ok-block-in-If t c =
    branch_checked (slot_at c.args.self.now.slots) _ _ _ _ _ _ _ c.in-If.is c.in_ok-test-in-If.ensures
    (subst (λ xs. checked_block (slot_at c.args.self.now.slots) (block_of xs) ≡ Ok (resolved_block c.in_ok-first-in-If.first.items)) c.deref.ensures.value c.in_ok-first-in-If.ensures)
    (subst (λ xs. checked_block (slot_at c.args.self.now.slots) (block_of xs) ≡ Ok (resolved_block c.in_ok-block-in-If.field-0.items)) c.deref-in-If.ensures.value c.in_ok-block-in-If.ensures)

pub statement-returns-in_ok-block-in-While : goal.statement-returns-in_ok-block-in-While
statement-returns-in_ok-block-in-While t c =
    repeat_checked (slot_at c.args.self.now.slots) _ _ _ _ _ c.in-While.is c.in_ok-test-in-While.ensures
    (subst (λ xs. checked_block (slot_at c.args.self.now.slots) (block_of xs) ≡ Ok (resolved_block c.in_ok-block-in-While.field-0.items)) c.deref-in-While.ensures.value c.in_ok-block-in-While.ensures)

pub block-loop-statement-preserved : goal.block-loop-statement-preserved
block-loop-statement-preserved t c =
    c.loop-statement.invariant
    ∙ ap (λ b. checked_after (slot_at c.args.self.now.slots) (resolved_block c.loop-statement.resolved.items) b) (next_statement c.args.statements.now c.loop-statement.statement-index c.statement-item.result c.loop-statement-test.true c.statement-item.is)
    ∙ goes_on (slot_at c.args.self.now.slots) c.loop-statement.resolved.items _ (block_of (drop (c.loop-statement.statement-index + 1) c.args.statements.now)) _ c.in_ok-statement.ensures
    ∙ ap (λ xs. checked_after (slot_at c.args.self.now.slots) (resolved_block xs) (block_of (drop (c.loop-statement.statement-index + 1) c.args.statements.now))) (sym c.in_ok-push.ensures.items)

pub block-returns : goal.block-returns
block-returns t c =
    c.loop-statement.invariant
    ∙ ap (λ b. checked_after (slot_at c.args.self.now.slots) (resolved_block c.loop-statement.resolved.items) b) (no_statement _ _ c.loop-statement-test.false)
    ∙ ends (slot_at c.args.self.now.slots) _
