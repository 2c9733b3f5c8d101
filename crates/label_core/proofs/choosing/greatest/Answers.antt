use Rattle.std.proofs.Common.{◌+◌, ◌<◌, arith, sym, subst, ◌∙◌, length, drop}
use Rattle.std.proofs.lemmas.List.{drop_all}
use Rattle.label_core.proofs.Scanning.{Scanning, starts, takes, keeps, ends, first_contained, drop_item}
use Rattle.label_core.proofs.choosing.greatest.Goals as goal
use Rattle.label_core.proofs.choosing.greatest.Goals.{then-dominates, else-dominates}

pub loop-label-init : goal.loop-label-init
loop-label-init c =
    let first = first_contained c.args.labels.now c.in_ok-first.first.now c.in_ok-first.ensures.value in
    starts c.args.labels.now (c.requires.top first.0) c.in_ok-first.first.now first.1

pub loop-label-preserved : goal.loop-label-preserved
loop-label-preserved c =
    let labels = c.args.labels.now in
    let at = c.loop-label.label-index in
    let inside : at < length labels = c.loop-label-test.true in
    let has = c.requires.top (omega arith) in
    let split = subst (λ rest. Scanning labels rest c.loop-label.top) (drop_item labels at c.label-item.result inside c.label-item.is) c.loop-label.invariant in
    elim c.if-dominates.branch [
      | then-dominates w ↦ subst (Scanning labels (drop (at + 1) labels)) (sym w.top-is)
          (takes c.requires.alike.0 labels (drop (at + 1) labels) c.label-item.result c.loop-label.top c.requires.alike.1 has
          (at, inside, sym c.label-item.is) split (sym c.dominates.ensures ∙ w.if-dominates.true))
      | else-dominates w ↦ subst (Scanning labels (drop (at + 1) labels)) (sym w.top-is)
          (keeps c.requires.alike.0 labels (drop (at + 1) labels) c.label-item.result c.loop-label.top c.requires.alike.1 has
          split (sym c.dominates.ensures ∙ w.if-dominates.false))
    ]

pub returns : goal.returns
returns c =
    let labels = c.args.labels.now in
    let first = first_contained labels c.in_ok-first.first.now c.in_ok-first.ensures.value in
    ends labels c.loop-label.top (c.requires.top first.0)
    (subst (λ rest. Scanning labels rest c.loop-label.top) (drop_all c.loop-label.label-index labels c.loop-label-test.false) c.loop-label.invariant)
