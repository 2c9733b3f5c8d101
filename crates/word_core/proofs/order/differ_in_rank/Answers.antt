use Rattle.std.proofs.Common.{◌≡◌, ◌-◌, ◌<◌, ◌++◌, List, ℕ, ap, sym, subst, ◌∙◌, length, map, take, replicate}
use Rattle.std.specs.Prelude.{All}
use Rattle.std.proofs.lemmas.List.{length-map, take_at}
use Rattle.label_core.specs.Labels.{dominated}
use Rattle.word_core.specs.prover.Numbers.{AreApart}
use Rattle.word_core.proofs.Apart.{ranks_small}
use Rattle.word_core.proofs.order.differ_in_rank.Goals as goal

-- the ranks of the labels are the first ones
first : (labels : List (List ℕ)) (row : List ℕ) → row ≡ map (dominated labels) labels ++ replicate (6 - length labels) 0
    → take (length labels) row ≡ map (dominated labels) labels
first labels row is =
    ap (take (length labels)) is ∙ take_at (map (dominated labels) labels) (replicate (6 - length labels) 0) (length labels) (length-map labels (dominated labels))

pub are_apart-requires : goal.are_apart-requires
are_apart-requires c =
    let labels = c.args.labels.now in
    let front = first labels c.ranks.result c.ranks.ensures in
    subst (All (λ rank. rank < 8)) (sym front) (ranks_small labels c.requires.few)

pub returns : goal.returns
returns c =
    let labels = c.args.labels.now in
    let front = first labels c.ranks.result c.ranks.ensures in (
      (λ yes. subst AreApart front (c.are_apart.ensures.0 yes)),
      (λ apart. c.are_apart.ensures.1 (subst AreApart (sym front) apart)),
    )
