use Rattle.std.proofs.Common.{◌≡◌, ap, subst, ◌∙◌, arith}
use Rattle.tick_merge.specs.prover.Reached.{ProcessSpent}
use Rattle.tick_merge.proofs.Ending.{one_spent, all_spent, not_at_end}
use Rattle.tick_merge.proofs.merging.Merging.spend_all.Goals as goal

pub returns-then-not-branch-clause-err : goal.returns-then-not-branch-clause-err
returns-then-not-branch-clause-err c = λ turns history taken long.
    let code = c.args.code.now in
    let first = c.loop-p.invariant turns history taken in
    let count : c.processes-p-end.result ≡ code.sizes.processes = c.processes-p-end.ensures.count ∙ ap (λ z. z.processes) c.sizes.ensures.sizes in
    not_at_end code turns history c.loop-p.p c.args.steps c.loop-p.self (omega (arith, count, c.loop-p-test.true)) long first
    (subst (ProcessSpent code turns history c.loop-p.p c.loop-p.self c.spend.new.self) c.if-not-branch.true (c.in_ok-spend.ensures.ok turns history first.reached))

pub loop-p-preserved : goal.loop-p-preserved
loop-p-preserved c = λ turns history taken.
    let code = c.args.code.now in
    let first = c.loop-p.invariant turns history taken in
    let count : c.processes-p-end.result ≡ code.sizes.processes = c.processes-p-end.ensures.count ∙ ap (λ z. z.processes) c.sizes.ensures.sizes in
    one_spent code turns history c.loop-p.p c.loop-p.self c.spend.new.self (omega (arith, count, c.loop-p-test.true)) first
    (subst (ProcessSpent code turns history c.loop-p.p c.loop-p.self c.spend.new.self) c.if-not-branch.false (c.in_ok-spend.ensures.ok turns history first.reached))

pub returns-clause-ok : goal.returns-clause-ok
returns-clause-ok c = λ turns history taken.
    let code = c.args.code.now in
    let count : c.processes-p-end.result ≡ code.sizes.processes = c.processes-p-end.ensures.count ∙ ap (λ z. z.processes) c.sizes.ensures.sizes in
    all_spent code turns history c.loop-p.p c.loop-p.self (omega (arith, count, c.loop-p-test.false, c.loop-p.auto.p-end)) (c.loop-p.invariant turns history taken)
