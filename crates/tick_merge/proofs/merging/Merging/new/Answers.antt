use Rattle.std.proofs.Common.{◌≡◌, ap, sym, subst, ◌∙◌, arith, vec_items}
use Rattle.base.specs.RegisterRows.{start_rows}
use Rattle.word_core.specs.Stamps.{start_labels}
use Rattle.tick_merge.specs.prover.Reached.{AreNew}
use Rattle.tick_merge.proofs.Starting.{none_new, one_new, reached_start}
use Rattle.tick_merge.proofs.merging.Merging.new.Goals as goal

pub loop-p-init : goal.loop-p-init
loop-p-init c = subst (AreNew c.args.code.now 0) (sym c.new-processes.ensures.items) (none_new c.args.code.now)

pub loop-p-preserved : goal.loop-p-preserved
loop-p-preserved c =
    one_new c.args.code.now c.loop-p.p (vec_items c.loop-p.processes) _ c.in_ok-process.process c.in_ok-push.ensures.items c.loop-p.invariant
    c.in_ok-process.ensures.of c.in_ok-process.ensures.me c.in_ok-process.ensures.start

pub returns-clause-ok : goal.returns-clause-ok
returns-clause-ok c =
    let code = c.args.code.now in
    let sizes = c.sizes-sizes.ensures.sizes in
    let count : c.processes-p-end.result ≡ code.sizes.processes = c.processes-p-end.ensures.count ∙ ap (λ z. z.processes) sizes in
    let all : c.loop-p.p ≡ code.sizes.processes = omega (arith, count) in
    reached_start code c.args.turns.now _ c.sizes-sizes.ensures.verified (omega (arith, count, c.processes-p-end.ensures.at_most_six)) c.requires
    (c.in_ok-words.ensures.labels ∙ ap (λ z. start_labels z.processes) sizes)
    (c.in_ok-words.ensures.rows ∙ ap (λ z. start_rows z.rows z.processes) sizes)
    (subst (λ k. AreNew code k (vec_items c.loop-p.processes)) all c.loop-p.invariant)
    c.in_ok-left.ensures.items c.new-schedule.ensures.items
