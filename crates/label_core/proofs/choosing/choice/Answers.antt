use Rattle.std.proofs.Common.{arith, ap, sym, ◌∙◌}
use Rattle.label_core.specs.Labels.{next_digit}
use Rattle.label_core.proofs.Reaching.{step_turns, step_keeps}
use Rattle.label_core.proofs.Stretches.{place}
use Rattle.label_core.proofs.Turning.{turned}
use Rattle.label_core.proofs.choosing.choice.Goals as goal

pub overflow_add-first : goal.overflow_add-first
overflow_add-first c =
    omega (
      arith,
      (place c.args.top.now c.args.labels.now c.loop-at.at c.loop-at.before c.digit-digit.result c.len-len.result c.requires
          (omega (arith, c.len-len.ensures.digits.few)) c.loop-at-test.true c.loop-at.invariant.before c.digit-digit.ensures.digit c.len-len.ensures.len).room,
    )

pub overflow_add-before : goal.overflow_add-before
overflow_add-before c =
    omega (
      arith,
      ((place c.args.top.now c.args.labels.now c.loop-at.at c.loop-at.before c.digit-digit.result c.len-len.result c.requires
          (omega (arith, c.len-len.ensures.digits.few)) c.loop-at-test.true c.loop-at.invariant.before c.digit-digit.ensures.digit c.len-len.ensures.len).turns
          c.next_digit.result (omega (arith, c.next_digit.ensures))).in_table,
    )

pub numbered-requires-clause-small : goal.numbered-requires-clause-small
numbered-requires-clause-small c =
    ((place c.args.top.now c.args.labels.now c.loop-at.at c.loop-at.before c.digit-digit.result c.len-len.result c.requires
    (omega (arith, c.len-len.ensures.digits.few)) c.loop-at-test.true c.loop-at.invariant.before c.digit-digit.ensures.digit c.len-len.ensures.len).turns
    c.next_digit.result (omega (arith, c.next_digit.ensures))).small

pub returns-then-count_within-len : goal.returns-then-count_within-len
returns-then-count_within-len c =
    let top = c.args.top.now in
    let labels = c.args.labels.now in
    let p = place top labels c.loop-at.at c.loop-at.before c.digit-digit.result c.len-len.result c.requires
    (omega (arith, c.len-len.ensures.digits.few)) c.loop-at-test.true c.loop-at.invariant.before c.digit-digit.ensures.digit c.len-len.ensures.len in
    c.numbered.ensures.digits ∙ (p.turns c.next_digit.result (omega (arith, c.next_digit.ensures))).is
    ∙ ap (λ digit. turned c.loop-at.at digit top) (c.next_digit.ensures ∙ ap next_digit c.digit-digit.ensures.digit)
    ∙ sym (step_turns top c.loop-at.at labels (omega (arith, c.len-len.ensures.len, c.loop-at-test.true))
    (omega (arith, c.len-len.ensures.len, c.count_within.ensures.count, p.counted, c.if-count_within-len.true)) c.loop-at.invariant.chosen)

pub loop-at-preserved : goal.loop-at-preserved
loop-at-preserved c =
    let top = c.args.top.now in
    let labels = c.args.labels.now in
    let p = place top labels c.loop-at.at c.loop-at.before c.digit-digit.result c.len-len.result c.requires
    (omega (arith, c.len-len.ensures.digits.few)) c.loop-at-test.true c.loop-at.invariant.before c.digit-digit.ensures.digit c.len-len.ensures.len in
    record {
      chosen = step_keeps top c.loop-at.at labels (omega (arith, c.len-len.ensures.len, c.loop-at-test.true))
          (omega (arith, c.len-len.ensures.len, c.count_within.ensures.count, p.counted, c.if-count_within-len.false)) c.loop-at.invariant.chosen;
      before = p.starts;
    }
