use Rattle.std.proofs.Common.{◌≡◌, ◌-◌, ◌<◌, ◌++◌, [], List, ℕ, arith, ap, sym, subst, ◌∙◌, length, drop, map, take, replicate}
use Rattle.std.specs.Prelude.{All}
use Rattle.std.proofs.lemmas.Bool.{both_ways}
use Rattle.std.proofs.lemmas.List.{drop-replicate, length-map, take_at}
use Rattle.label_core.specs.Labels.{IsLabel, dominated, label_ranks}
use Rattle.word_core.specs.Stamps.{present}
use Rattle.word_core.specs.prover.Numbers.{AreApart}
use Rattle.word_core.proofs.Apart.{apart_from_ordered, ordered_from_apart, ranks_small}
use Rattle.word_core.proofs.Choosing.{All-present}
use Rattle.word_core.proofs.words.LabelWord.rank_among.Goals as goal

-- the labels that are there, and their ranks
there : (all : List (List ℕ)) (row : List (List ℕ)) (count : ℕ) → row ≡ all ++ replicate (6 - length all) [] → count ≡ length all → take count row ≡ all
there all row count is many = ap (take count) is ∙ take_at all (replicate (6 - length all) []) count (sym many)

ranks_are : (all : List (List ℕ)) (row : List (List ℕ)) (old among : List ℕ) (count : ℕ) → row ≡ all ++ replicate (6 - length all) [] → count ≡ length all
    → old ≡ replicate 6 0 → among ≡ label_ranks (take count row) ++ drop (length (take count row)) old → among ≡ map (dominated all) all ++ replicate (6 - length all) 0
ranks_are all row old among count is many zeros ranks =
    ranks ∙ ap (λ labels. label_ranks labels ++ drop (length labels) old) (there all row count is many)
    ∙ ap (λ rest. map (dominated all) all ++ drop (length all) rest) zeros
    ∙ ap (λ rest. map (dominated all) all ++ rest) (drop-replicate (length all) 6 0)

front : (all : List (List ℕ)) (among : List ℕ) (count : ℕ) → count ≡ length all → among ≡ map (dominated all) all ++ replicate (6 - length all) 0
    → take count among ≡ map (dominated all) all
front all among count many is =
    ap (take count) is ∙ take_at (map (dominated all) all) (replicate (6 - length all) 0) count (length-map all (dominated all) ∙ sym many)

pub write_ranks-requires-clause-alike : goal.write_ranks-requires-clause-alike
write_ranks-requires-clause-alike c =
    let labels = c.args.self.now in
    let digits = c.n-n.result - 1 in
    let row = c.gather-count.ensures in
    (digits, subst (All (IsLabel digits)) (sym (there (present labels) c.gather-count.new.row c.gather-count.result row.labels row.count)) (All-present (IsLabel digits) labels c.n-n.ensures.labels.each))

pub are_apart-requires : goal.are_apart-requires
are_apart-requires c =
    let all = present c.args.self.now in
    let row = c.gather-count.ensures in
    let among = ranks_are all c.gather-count.new.row c.args.row.now c.write_ranks.new.ranks c.gather-count.result row.labels row.count c.requires c.write_ranks.ensures in
    subst (All (λ rank. rank < 8)) (sym (front all c.write_ranks.new.ranks c.gather-count.result row.count among))
    (ranks_small all (omega (arith, row.count, row.few, c.n-n.ensures.count, c.n-n.ensures.at_most_six)))

pub returns-else-are_apart : goal.returns-else-are_apart
returns-else-are_apart c = λ ordered.
    let all = present c.args.self.now in
    let row = c.gather-count.ensures in
    let among = ranks_are all c.gather-count.new.row c.args.row.now c.write_ranks.new.ranks c.gather-count.result row.labels row.count c.requires c.write_ranks.ensures in
    both_ways _ c.if-are_apart.false (c.are_apart.ensures.1
    (subst AreApart (sym (front all c.write_ranks.new.ranks c.gather-count.result row.count among)) (apart_from_ordered c.args.self.now ordered)))

pub returns-then-are_apart : goal.returns-then-are_apart
returns-then-are_apart c =
    let all = present c.args.self.now in
    let row = c.gather-count.ensures in
    let among = ranks_are all c.gather-count.new.row c.args.row.now c.write_ranks.new.ranks c.gather-count.result row.labels row.count c.requires c.write_ranks.ensures in (
      ordered_from_apart c.args.self.now
          (subst AreApart (front all c.write_ranks.new.ranks c.gather-count.result row.count among) (c.are_apart.ensures.0 c.if-are_apart.true)),
      record { among = among; many = row.count; few = row.few },
    )
