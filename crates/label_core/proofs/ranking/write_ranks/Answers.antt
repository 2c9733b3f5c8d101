use Rattle.std.proofs.Common.{◌≡◌, ◌+◌, ◌<◌, ◌++◌, ◌∷◌, [], arith, ap, sym, ◌∙◌, append_assoc, drop, get_or, length, length-take-le, map, set, take}
use Rattle.std.proofs.lemmas.List.{drop_at, drop_more, get_or_read, length-map, set_at, take_more}
use Rattle.label_core.specs.Labels.{dominated, label_ranks}
use Rattle.label_core.proofs.Pairs.{label_ranks-snoc}
use Rattle.label_core.proofs.ranking.write_ranks.Goals as goal

pub loop-process-preserved : goal.loop-process-preserved
loop-process-preserved c =
    let labels = c.args.labels.now in
    let old = c.args.ranks.now in
    let at = c.loop-process.process in
    let label = c.index-labels-process.result in
    let rank = c.rank_beside-rank.result in
    let inside : at < length labels = c.loop-process-test.true in
    let before = take at labels in
    let few : length before ≡ at = length-take-le at labels (omega arith) in
    let front = map (dominated (label ∷ before)) before in
    let rest : drop at c.loop-process.ranks ≡ drop at old =
    ap (drop at) c.loop-process.invariant
    ∙ drop_at (label_ranks before) (drop at old) at (length-map before (dominated before) ∙ few) in
    ap (λ row. set (c.rank_beside-rank.new.ranks ++ row) at rank) rest
    ∙ ap (λ row. set (row ++ drop at old) at rank) c.rank_beside-rank.ensures.ranks
    ∙ ap (λ row. set (front ++ row) at rank) (drop_more old at 0 (omega (arith, inside, c.requires.few, c.fits-ranks)))
    ∙ set_at front (get_or old at 0) (drop (at + 1) old) rank at (length-map before (dominated (label ∷ before)) ∙ few)
    ∙ sym (append_assoc front (rank ∷ []) (drop (at + 1) old))
    ∙ ap (λ r. (front ++ r ∷ []) ++ drop (at + 1) old) c.rank_beside-rank.ensures.rank
    ∙ ap (λ ranks. ranks ++ drop (at + 1) old) (
    sym (label_ranks-snoc before label)
    ∙ ap (λ x. label_ranks (before ++ x ∷ [])) (get_or_read labels at label inside c.index-labels-process.is [])
    ∙ ap label_ranks (sym (take_more labels at [] inside))
    )
