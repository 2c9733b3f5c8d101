use Rattle.std.proofs.Common.{◌≡◌, [], arith, ap, refl, ◌∙◌, get_or, eqb, not, ◌&&◌}
use Rattle.std.proofs.lemmas.List.{get_or_read}
use Rattle.std.proofs.lemmas.List.Elements.{All-head, All-tail, All-get_or}
use Rattle.std.proofs.lemmas.List.Sums.{count_by-le-length}
use Rattle.label_core.specs.Labels.{IsLabel, dominates, label_number}
use Rattle.label_core.proofs.Pairs.{counts_le, rank_read, rank_step, ranks_step}
use Rattle.label_core.proofs.ranking.rank_beside.Goals as goal

pub overflow_add-ranks : goal.overflow_add-ranks
overflow_add-ranks c =
    let others = c.args.others.now in
    let at = c.loop-place.place in
    let other = get_or others at [] in
    omega (
      arith,
      rank_read c.args.label.now others at c.loop-place.ranks c.loop-place-test.true c.loop-place.invariant.0,
      count_by-le-length (dominates other) others,
      c.requires.few,
      counts_le (not c.dominates-over.result && not (eqb c.number.result c.number-in-loop-place.result)) c.from.result
          (record { one = λ e. c.from.ensures ∙ rw e refl; none = λ e. c.from.ensures ∙ rw e refl }),
    )

pub loop-place-preserved : goal.loop-place-preserved
loop-place-preserved c =
    let label = c.args.label.now in
    let others = c.args.others.now in
    let at = c.loop-place.place in
    let inside = c.loop-place-test.true in
    let digits = c.requires.alike.0 in
    let is = All-head (IsLabel digits) label others c.requires.alike.1 in
    let other_is = All-get_or (IsLabel digits) others at [] inside (All-tail (IsLabel digits) label others c.requires.alike.1) in
    let here : c.index-others-place.result ≡ get_or others at [] = get_or_read others at c.index-others-place.result inside c.index-others-place.is [] in
    let over = c.dominates-over.ensures ∙ ap (dominates label) here in (
      ranks_step digits label others at c.loop-place.ranks c.dominates-over.result (eqb c.number.result c.number-in-loop-place.result) c.from.result inside c.loop-place.invariant.0 is other_is over
          (ap (λ n. eqb n c.number-in-loop-place.result) c.number.ensures.number
          ∙ ap (eqb (label_number label)) (c.number-in-loop-place.ensures.number ∙ ap label_number here))
          (record { one = λ e. c.from.ensures ∙ rw e refl; none = λ e. c.from.ensures ∙ rw e refl }),
      rank_step label others at c.loop-place.rank c.dominates-over.result c.from-rank.result inside c.loop-place.invariant.1 over
          (record { one = λ e. c.from-rank.ensures ∙ rw e refl; none = λ e. c.from-rank.ensures ∙ rw e refl }),
    )
