use Rattle.std.proofs.Common.{◌≡◌, ◌<◌, ◌≤◌, ◌∙◌, not, Ok, ap, arith, length, rules, sym}
use Rattle.std.proofs.lemmas.Result.{err_from_is_err_and}
use Rattle.base.specs.Operators.{truth_value}
use Rattle.language_properties.specs.Properties.{formula_of}
use Rattle.language_properties.proofs.Counting.{is_at, decided_on, decided_found, decided_trap, decided_none, sum_on, sum_over, sum_trap, sum_none}
use Rattle.language_properties.proofs.value.+value.Goals as goal

pub decide-returns-in_err-value : goal.decide-returns-in_err-value
decide-returns-in_err-value g t c =
    let below : c.loop-process.process < length (g.S.Visible.seen c.args.state.now).statuses = omega (arith, c.loop-process-test.true, c.processes-process-end.ensures) in
    let p = err_from_is_err_and c.from_residual.result c.from_residual.ensures.1 in
    rw (p.1, p.2) (sym (c.loop-process.invariant ∙ decided_trap _ _ c.args.wants_some c.loop-process.process _ below (is_at (g.S.Visible.seen c.args.state.now) c.with.result c.args.bound c.args.number c.loop-process.process (formula_of c.args.body.now) _ c.with.ensures c.in_err-value.ensures)))

pub decide-returns-then-decides : goal.decide-returns-then-decides
decide-returns-then-decides g t c =
    let below : c.loop-process.process < length (g.S.Visible.seen c.args.state.now).statuses = omega (arith, c.loop-process-test.true, c.processes-process-end.ensures) in
    let is : c.from.result ≡ truth_value c.args.wants_some = search rules in
    ap Ok is ∙ sym (c.loop-process.invariant ∙ decided_found _ _ c.args.wants_some c.loop-process.process _ below (is_at (g.S.Visible.seen c.args.state.now) c.with.result c.args.bound c.args.number c.loop-process.process (formula_of c.args.body.now) _ c.with.ensures c.in_ok-value.ensures) (sym c.decides.ensures ∙ c.if-decides.true))

pub decide-loop-process-preserved : goal.decide-loop-process-preserved
decide-loop-process-preserved g t c =
    let below : c.loop-process.process < length (g.S.Visible.seen c.args.state.now).statuses = omega (arith, c.loop-process-test.true, c.processes-process-end.ensures) in
    c.loop-process.invariant ∙ decided_on _ _ c.args.wants_some c.loop-process.process _ below (is_at (g.S.Visible.seen c.args.state.now) c.with.result c.args.bound c.args.number c.loop-process.process (formula_of c.args.body.now) _ c.with.ensures c.in_ok-value.ensures) (sym c.decides.ensures ∙ c.if-decides.false)

pub decide-returns : goal.decide-returns
decide-returns g t c =
    let past : length (g.S.Visible.seen c.args.state.now).statuses ≤ c.loop-process.process = omega (arith, c.loop-process-test.false, c.processes-process-end.ensures) in
    let is : c.from-2.result ≡ truth_value (not c.args.wants_some) = search rules in
    ap Ok is ∙ sym (c.loop-process.invariant ∙ decided_none _ _ c.args.wants_some c.loop-process.process past)

pub sum_of-returns-in_err-more : goal.sum_of-returns-in_err-more
sum_of-returns-in_err-more g t c =
    let below : c.loop-process.process < length (g.S.Visible.seen c.args.state.now).statuses = omega (arith, c.loop-process-test.true, c.processes-process-end.ensures) in
    let p = err_from_is_err_and c.from_residual.result c.from_residual.ensures.1 in
    rw (p.1, p.2) (sym (c.loop-process.invariant ∙ sum_trap _ _ c.loop-process.process c.loop-process.total _ below (is_at (g.S.Visible.seen c.args.state.now) c.with.result c.args.bound c.args.number c.loop-process.process (formula_of c.args.body.now) _ c.with.ensures c.in_err-more.ensures)))

pub sum_of-returns-in_err-total : goal.sum_of-returns-in_err-total
sum_of-returns-in_err-total g t c =
    let below : c.loop-process.process < length (g.S.Visible.seen c.args.state.now).statuses = omega (arith, c.loop-process-test.true, c.processes-process-end.ensures) in
    let p = err_from_is_err_and c.from_residual-in_err-total.result c.from_residual-in_err-total.ensures.1 in
    rw (p.1, p.2) (sym (c.loop-process.invariant ∙ sum_over _ _ c.loop-process.process c.in_ok-more.more c.loop-process.total _ below (is_at (g.S.Visible.seen c.args.state.now) c.with.result c.args.bound c.args.number c.loop-process.process (formula_of c.args.body.now) _ c.with.ensures c.in_ok-more.ensures) (sym c.in_err-total.ensures)))

pub sum_of-loop-process-preserved : goal.sum_of-loop-process-preserved
sum_of-loop-process-preserved g t c =
    let below : c.loop-process.process < length (g.S.Visible.seen c.args.state.now).statuses = omega (arith, c.loop-process-test.true, c.processes-process-end.ensures) in
    c.loop-process.invariant ∙ sum_on _ _ c.loop-process.process c.in_ok-more.more c.loop-process.total c.in_ok-total.total below (is_at (g.S.Visible.seen c.args.state.now) c.with.result c.args.bound c.args.number c.loop-process.process (formula_of c.args.body.now) _ c.with.ensures c.in_ok-more.ensures) (sym c.in_ok-total.ensures)

pub sum_of-returns : goal.sum_of-returns
sum_of-returns g t c =
    let past : length (g.S.Visible.seen c.args.state.now).statuses ≤ c.loop-process.process = omega (arith, c.loop-process-test.false, c.processes-process-end.ensures) in
    sym (c.loop-process.invariant ∙ sum_none _ _ c.loop-process.process c.loop-process.total past)
