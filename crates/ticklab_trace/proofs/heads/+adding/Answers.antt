use Rattle.std.proofs.Common.{⊎_elim}
use Rattle.base.specs.View.{statement_of}
use Rattle.ticklab_trace.proofs.HeadTokens.{IsPlain, branch_heads, branch_lent, branch_past, head_pushed, next_statement, plain_as, plain_heads, one_more, repeat_heads, repeat_lent, repeat_past, rest_more}
use Rattle.ticklab_trace.proofs.heads.+adding.Goals as goal

pub add_block-loop-statement-preserved : goal.add_block-loop-statement-preserved
add_block-loop-statement-preserved t c =
    let block = c.args.block.now in
    let i = c.loop-statement.statement-index in
    let s = c.statement-item.result in
    let next = next_statement block i s c.loop-statement-test.true c.statement-item.is in (
      one_more (statement_of s) _ _ _ _ c.args.spans.now.items _ _ _ next c.in_ok-rest.ensures.after c.in_ok-rest.ensures.spans c.loop-statement.invariant.0,
      rest_more (statement_of s) _ _ _ _ _ next c.in_ok-rest.ensures.after c.loop-statement.invariant.1,
    )

pub add-returns-in_ok-end-in-If-clause-after : goal.add-returns-in_ok-end-in-If-clause-after
add-returns-in_ok-end-in-If-clause-after t c =
    branch_past (statement_of c.args.statement.now) _ _ _ c.args.tokens.now _ _ _ _ _ _
    (branch_lent c.args.statement.now c.in-If.field-0 c.in-If.then c.in-If.otherwise _ _ c.in-If.is c.deref.ensures.value c.deref-in-If.ensures.value)
    c.past_head-rest.ensures c.past.ensures c.in_ok-between-in-If.ensures.after c.past_else.ensures c.in_ok-end-in-If.ensures.after c.past-in-If.ensures

pub add-returns-in_ok-end-in-If-clause-spans : goal.add-returns-in_ok-end-in-If-clause-spans
add-returns-in_ok-end-in-If-clause-spans t c =
    let s = statement_of c.args.statement.now in
    branch_heads s _ _ _ c.args.tokens.now _ _ _ _ c.args.spans.now.items _ _ _
    (branch_lent c.args.statement.now c.in-If.field-0 c.in-If.then c.in-If.otherwise _ _ c.in-If.is c.deref.ensures.value c.deref-in-If.ensures.value)
    c.past_head-rest.ensures c.past.ensures c.in_ok-between-in-If.ensures.after c.past_else.ensures
    (head_pushed s c.args.tokens.now _ _ _ _ c.past_head-rest.ensures c.extent.ensures c.in_ok-push.ensures.items)
    c.in_ok-between-in-If.ensures.spans c.in_ok-end-in-If.ensures.spans

pub add-returns-in_ok-end-in-While-clause-after : goal.add-returns-in_ok-end-in-While-clause-after
add-returns-in_ok-end-in-While-clause-after t c =
    repeat_past (statement_of c.args.statement.now) _ _ c.args.tokens.now _ _ _ _
    (repeat_lent c.args.statement.now c.in-While.field-0 c.in-While.body _ c.in-While.is c.deref-in-While.ensures.value)
    c.past_head-rest.ensures c.past-in-While.ensures c.in_ok-end-in-While.ensures.after c.past-in-While-2.ensures

pub add-returns-in_ok-end-in-While-clause-spans : goal.add-returns-in_ok-end-in-While-clause-spans
add-returns-in_ok-end-in-While-clause-spans t c =
    let s = statement_of c.args.statement.now in
    repeat_heads s _ _ c.args.tokens.now _ _ c.args.spans.now.items _ _
    (repeat_lent c.args.statement.now c.in-While.field-0 c.in-While.body _ c.in-While.is c.deref-in-While.ensures.value)
    c.past_head-rest.ensures c.past-in-While.ensures
    (head_pushed s c.args.tokens.now _ _ _ _ c.past_head-rest.ensures c.extent.ensures c.in_ok-push.ensures.items)
    c.in_ok-end-in-While.ensures.spans

pub add-returns-in-Assign-clause-spans : goal.add-returns-in-Assign-clause-spans
add-returns-in-Assign-clause-spans t c =
    let s = c.args.statement.now in
    let plain : IsPlain (statement_of s) =
    ⊎_elim (λ w. plain_as s _ w.2 tt)
    (⊎_elim (λ w. plain_as s _ w.3 tt)
    (⊎_elim (λ w. plain_as s _ w.2 tt)
    (⊎_elim (λ w. plain_as s _ w tt)
    (⊎_elim (λ w. plain_as s _ w tt)
    (⊎_elim (λ w. plain_as s _ w.1 tt)
    (⊎_elim (λ w. plain_as s _ w.2 tt)
    (⊎_elim (λ w. plain_as s _ w.4 tt)
    (⊎_elim (λ w. plain_as s _ w.3 tt) (λ w. plain_as s _ w.1 tt))))))))) c.in-Assign.is in
    plain_heads (statement_of s) c.args.tokens.now c.args.spans.now.items _ plain
    (head_pushed (statement_of s) c.args.tokens.now _ _ _ _ c.past_head-rest.ensures c.extent.ensures c.in_ok-push.ensures.items)
