-- What a row says in which the labels of those that are present were gathered from bits.
use Rattle.std.proofs.Common.{◌≡◌, ◌-◌, ◌≤◌, ◌++◌, [], List, ℕ, arith, ap, sym, subst, ◌∙◌, length, take, map, replicate}
use Rattle.std.proofs.lemmas.List.{length-map, take_at}
use Rattle.label_core.specs.Labels.{dominated}
use Rattle.word_core.specs.Stamps.{Labels, present}
use Rattle.word_core.specs.prover.Numbers.{AreApart, AreRanks}
use Rattle.word_core.specs.prover.Packing.{AreGathered, labels_in, length-labels_in}

-- the labels that are there are the first ones
pub there : (labels : Labels) (row : List (List ℕ)) (count : ℕ) → AreGathered labels row count → take count row ≡ present labels
there labels row count gathered =
    ap (take count) gathered.there ∙ take_at (present labels) (replicate (6 - length (present labels)) []) count (sym gathered.many)

pub few : (n bits count : ℕ) (row : List (List ℕ)) → n ≤ 6 → AreGathered (labels_in n bits) row count → count ≤ 6
few n bits count row most gathered = omega (arith, gathered.few, length-labels_in n bits, most)

pub few_there : (n bits count : ℕ) (row : List (List ℕ)) → n ≤ 6 → AreGathered (labels_in n bits) row count → length (take count row) ≤ 6
few_there n bits count row most gathered =
    omega (arith, ap length (there (labels_in n bits) row count gathered), gathered.many, gathered.few, length-labels_in n bits, most)

-- what is apart by one name is so by another
pub apart : (all labels : List (List ℕ)) → all ≡ labels → AreApart (map (dominated all) all) → AreApart (map (dominated labels) labels)
apart all labels same = subst (λ l. AreApart (map (dominated l) l)) same

-- the ranks of the labels that are there
pub ranks_among : (labels : Labels) (row : List (List ℕ)) (count : ℕ) (among : List ℕ) → AreGathered labels row count
    → among ≡ map (dominated (take count row)) (take count row) ++ replicate (6 - length (take count row)) 0 → AreRanks labels among count
ranks_among labels row count among gathered is = record {
  among = is ∙ ap (λ all. map (dominated all) all ++ replicate (6 - length all) 0) (there labels row count gathered);
  many = gathered.many;
  few = gathered.few;
}

-- and they are the first entries of their row
pub ranks_there : (labels : Labels) (among : List ℕ) (count : ℕ) → AreRanks labels among count → take count among ≡ map (dominated (present labels)) (present labels)
ranks_there labels among count ranks =
    let all = present labels in
    ap (take count) ranks.among ∙ take_at (map (dominated all) all) (replicate (6 - length all) 0) count (length-map all (dominated all) ∙ sym ranks.many)
