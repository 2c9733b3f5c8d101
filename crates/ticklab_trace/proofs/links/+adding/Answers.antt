use Rattle.std.proofs.Common.{◌≡◌, ◌+◌, ◌-◌, ◌<◌, suc, ap, ◌∙◌, sym, subst, refl, arith, length, drop, length-drop}
use Rattle.tick_kinds.proofs.Offered.{branch_lent, repeat_lent}
use Rattle.tick_kinds.specs.Resolved.{resolved_expression, resolved_statement, resolved_block}
use Rattle.ticklab_trace.specs.Numbers.{size, size_of}
use Rattle.ticklab_trace.specs.prover.Links.{Adds, AddsOne, Adding, Begins}
use Rattle.ticklab_trace.proofs.Linked.{adds_branch, adds_repeat, adding_more, next_statement, begins_first, begins_none, one_long, block_long, pushed_long}
use Rattle.ticklab_trace.proofs.links.+adding.Goals as goal
use Rattle.ticklab_trace.proofs.links.+adding.Goals.{add_block-then-left-eq0, add_block-else-left-eq0}

pub add-returns-in_ok-add_block-in-If-2 : goal.add-returns-in_ok-add_block-in-If-2
add-returns-in_ok-add_block-in-If-2 t c =
    let e = resolved_expression c.in-If.field-0 in
    let a = resolved_block c.in-If.then_block.items in
    let b = resolved_block c.in-If.else_block.items in
    let old = c.args.links.now.items in
    let new = c.add_block-in-If.new.links in
    let first : Adds a c.args.after c.push.new.self.items c.add_block.new.links.items =
    subst (λ x. Adds (resolved_block x) c.args.after c.push.new.self.items c.add_block.new.links.items) c.deref-in-If-3.ensures.value c.in_ok-add_block-in-If.ensures in
    let second : Adds b c.args.after c.add_block.new.links.items new.items =
    subst (λ x. Adds (resolved_block x) c.args.after c.add_block.new.links.items new.items) c.deref-in-If-4.ensures.value c.in_ok-add_block-in-If-2.ensures in
    let long : length new.items ≡ suc (length old) + size a + size b =
    block_long b c.args.after c.add_block.new.links.items new.items second
    ∙ ap (λ k. k + size b) (block_long a c.args.after c.push.new.self.items c.add_block.new.links.items first
    ∙ ap (λ k. k + size a) (pushed_long old c.push.new.self.items _ c.in_ok-push-in-If.ensures.items)) in
    let count : c.len-here.result ≡ length old = omega arith in
    let then_place : c.saturating_add-first.result ≡ suc (length old) = omega (arith, c.saturating_add-first.ensures, count, long, new.ok.0, new.ok.1, new.small) in
    let sized : c.size.result ≡ size a =
    omega (arith, c.size.ensures, ap (λ x. size (resolved_block x)) c.deref.ensures.value, long, new.ok.0, new.ok.1, new.small) in
    let else_place : c.saturating_add-second.result ≡ suc (length old) + size a =
    omega (arith, c.saturating_add-second.ensures, then_place, sized, long, new.ok.0, new.ok.1, new.small) in
    let parts = branch_lent c.args.statement.now c.in-If.field-0 c.in-If.then_block c.in-If.else_block c.in-If.then_block.items c.in-If.else_block.items c.in-If.is refl refl in
    subst (λ s. AddsOne s c.args.after old new.items) (sym parts)
    (adds_branch e a b c.args.after old c.push.new.self.items c.add_block.new.links.items new.items _ c.in_ok-push-in-If.ensures.items first second parts
    (subst (λ k. Begins a k c.args.after c.begin.result) then_place
    (subst (λ x. Begins (resolved_block x) c.saturating_add-first.result c.args.after c.begin.result) c.deref-in-If.ensures.value c.begin.ensures))
    (subst (λ k. Begins b k c.args.after c.begin-in-If.result) else_place
    (subst (λ x. Begins (resolved_block x) c.saturating_add-second.result c.args.after c.begin-in-If.result) c.deref-in-If-2.ensures.value c.begin-in-If.ensures)))

pub add-returns-in_ok-add_block-in-While : goal.add-returns-in_ok-add_block-in-While
add-returns-in_ok-add_block-in-While t c =
    let e = resolved_expression c.in-While.field-0 in
    let a = resolved_block c.in-While.block.items in
    let old = c.args.links.now.items in
    let mid = c.push-in-While.new.self.items in
    let new = c.add_block-in-While.new.links in
    let count : c.len-here.result ≡ length old = omega arith in
    let adds : Adds a (length old) mid new.items =
    subst (λ k. Adds a k mid new.items) count
    (subst (λ x. Adds (resolved_block x) c.len-here.result mid new.items) c.deref-in-While-2.ensures.value c.in_ok-add_block-in-While.ensures) in
    let long : length new.items ≡ suc (length old) + size a =
    block_long a (length old) mid new.items adds ∙ ap (λ k. k + size a) (pushed_long old mid _ c.in_ok-push-in-While.ensures.items) in
    let place : c.saturating_add-first.result ≡ suc (length old) = omega (arith, c.saturating_add-first.ensures, count, long, new.ok.0, new.ok.1, new.small) in
    let parts = repeat_lent c.args.statement.now c.in-While.field-0 c.in-While.block c.in-While.block.items c.in-While.is refl in
    subst (λ s. AddsOne s c.args.after old new.items) (sym parts)
    (adds_repeat e a c.args.after old mid new.items _ c.in_ok-push-in-While.ensures.items adds parts
    (subst (λ k. Begins a (suc (length old)) k c.begin-in-While.result) count
    (subst (λ k. Begins a k c.len-here.result c.begin-in-While.result) place
    (subst (λ x. Begins (resolved_block x) c.saturating_add-first.result c.len-here.result c.begin-in-While.result) c.deref-in-While.ensures.value c.begin-in-While.ensures)))
    refl)

pub add_block-loop-statement-preserved : goal.add_block-loop-statement-preserved
add_block-loop-statement-preserved t c =
    let block = c.args.block.now in
    let i = c.loop-statement.statement-index in
    let s = resolved_statement c.statement-item.result in
    let mid = c.loop-statement.links.items in
    let new = c.add.new.links in
    let inside : i < length block = c.loop-statement-test.true in
    let left = c.loop-statement.invariant.0 in
    let long : length new.items ≡ length mid + size_of s = one_long s c.if-left-eq0.next mid new.items c.in_ok-add.ensures in
    let end_is : c.saturating_add-end.result ≡ length mid + size_of s =
    omega (arith, c.saturating_add-end.ensures, c.size_of.ensures, c.len.ensures, c.loop-statement.links.ok.0, long, new.ok.0, new.ok.1, new.small) in
    let rest = drop (i + 1) block in
    let count : length rest ≡ length block - (i + 1) = length-drop (i + 1) block in
    let begin : Begins (resolved_block rest) (length mid + size_of s) c.args.after c.if-left-eq0.next =
    elim c.if-left-eq0.branch as (λ _. Begins (resolved_block rest) (length mid + size_of s) c.args.after c.if-left-eq0.next) [
      | add_block-then-left-eq0 w ↦
          subst (λ k. Begins (resolved_block rest) (length mid + size_of s) c.args.after k) (sym w.next-is)
          (begins_none rest (length mid + size_of s) c.args.after (omega (arith, count, left, inside, w.if-left-eq0.true)))
      | add_block-else-left-eq0 w ↦
          subst (λ k. Begins (resolved_block rest) (length mid + size_of s) c.args.after k) (sym (w.next-is ∙ end_is))
          (begins_first rest (length mid + size_of s) c.args.after (omega (arith, count, left, inside, w.if-left-eq0.false)))
    ] in (
      omega (arith, left, inside),
      adding_more (resolved_block block) (resolved_block rest) s c.args.after c.if-left-eq0.next c.args.links.now.items mid new.items
          (subst (λ b. Adding (resolved_block block) b c.args.after c.args.links.now.items mid) (next_statement block i c.statement-item.result inside c.statement-item.is) c.loop-statement.invariant.1)
          c.in_ok-add.ensures begin,
    )
