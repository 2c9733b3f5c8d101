-- Where labels are in an order, how many each is above are numbers of that order too.
-- The idea. A label with a higher number is above all that one with a lower number is above (`passes_on`). So its count is
-- no lower (`ranks_le`), and higher where its number is (`ranks_lt`). An absent process has number 0, and another 1 more
-- than its count. `grows` says of both together that they grow as the numbers of the order. By `ordered_pairs` and
-- `pairs_ordered`, labels are in an order exactly where these numbers order each pair.
-- Read `passes_on` first, then `grows` and `ordered_pairs`.
use Rattle.std.proofs.Common.{◌≡◌, ℕ, ◌+◌, ◌<◌, ◌≤◌, true, false, ltb, Option, None, Some, List, length, refl, sym, ap, ◌∙◌, arith, ⊎_elim}
use Rattle.std.specs.Prelude.{slice_index}
use Rattle.std.specs.List.{AllByRecursion}
use Rattle.std.proofs.lemmas.Bool.{cases_lt, ltb-true, lt-ltb, le-ltb}
use Rattle.std.proofs.lemmas.List.{length-map, get_or-map}
use Rattle.std.proofs.lemmas.List.Elements.{All-from_get_or, recursion_from_All}
use Rattle.word_core.specs.Stamps.{Labels, label_at, is_present}
use Rattle.word_core.specs.Order.{OrderedBy, IsOrdered, above, labels_below}
use Rattle.word_core.specs.prover.Numbers.{number_among, numbers_of, PairAgrees}
use Rattle.word_core.proofs.Counting.{count_le, count_lt}
use Rattle.word_core.proofs.Setting.{above_self}

-- who has a higher number is above all that one with a lower number is above
passes_on : (labels : Labels) (numbers : List ℕ) → OrderedBy labels numbers → (i j : ℕ) → i < length labels → j < length labels
    → slice_index numbers j ≤ slice_index numbers i
    → AllByRecursion (λ other. above (label_at labels j) other ≡ true → above (label_at labels i) other ≡ true) labels
passes_on labels numbers by i j in_i in_j le =
    let P : Option (List ℕ) → Type 0 = λ other. above (label_at labels j) other ≡ true → above (label_at labels i) other ≡ true in
    recursion_from_All P labels (All-from_get_or P labels None (λ k in_k over.
    let below : slice_index numbers k < slice_index numbers j = ltb-true _ _ (sym (by.over j k in_j in_k) ∙ over) in
    by.over i k in_i in_k ∙ lt-ltb _ _ (omega arith)))

ranks_le : (labels : Labels) (numbers : List ℕ) → OrderedBy labels numbers → (i j : ℕ) → i < length labels → j < length labels
    → slice_index numbers j ≤ slice_index numbers i → labels_below labels (label_at labels j) ≤ labels_below labels (label_at labels i)
ranks_le labels numbers by i j in_i in_j le =
    count_le (above (label_at labels j)) (above (label_at labels i)) labels (passes_on labels numbers by i j in_i in_j le)

ranks_lt : (labels : Labels) (numbers : List ℕ) → OrderedBy labels numbers → (i j : ℕ) → i < length labels → j < length labels
    → slice_index numbers j < slice_index numbers i → labels_below labels (label_at labels j) < labels_below labels (label_at labels i)
ranks_lt labels numbers by i j in_i in_j lt =
    count_lt (above (label_at labels j)) (above (label_at labels i)) labels j None
    (passes_on labels numbers by i j in_i in_j (omega arith)) in_j
    (above_self (label_at labels j)) (by.over i j in_i in_j ∙ lt-ltb _ _ lt)

-- the number of a process is 0 exactly where it is absent
number_present : (labels : Labels) (label : Option (List ℕ)) → is_present label ≡ ltb 0 (number_among labels label)
number_present labels None = sym (le-ltb 0 0 (omega arith))
number_present labels (Some label) = sym (lt-ltb 0 (1 + labels_below labels (Some label)) (omega arith))

number_some : (labels : Labels) (label : Option (List ℕ)) → is_present label ≡ true → number_among labels label ≡ 1 + labels_below labels label
number_some labels None here = cc
number_some labels (Some label) here = refl

number_none : (labels : Labels) (label : Option (List ℕ)) → is_present label ≡ false → number_among labels label ≡ 0
number_none labels None gone = refl
number_none labels (Some label) gone = cc

pub number_at : (labels : Labels) (i : ℕ) → i < length labels → slice_index (numbers_of labels) i ≡ number_among labels (label_at labels i)
number_at labels i inside = get_or-map (number_among labels) labels i None 0 inside

-- these numbers grow as any others by which the labels are ordered
record Grows (labels : Labels) (numbers : List ℕ) (i j : ℕ) : Type 0 where
  lt : slice_index numbers j < slice_index numbers i → number_among labels (label_at labels j) < number_among labels (label_at labels i)
  le : slice_index numbers j ≤ slice_index numbers i → number_among labels (label_at labels j) ≤ number_among labels (label_at labels i)

grows : (labels : Labels) (numbers : List ℕ) → OrderedBy labels numbers → (i j : ℕ) → i < length labels → j < length labels → Grows labels numbers i j
grows labels numbers by i j in_i in_j =
    let none : slice_index numbers j ≡ 0 → number_among labels (label_at labels j) ≡ 0 = λ zero.
    number_none labels (label_at labels j) (by.present j in_j ∙ le-ltb _ _ (omega arith)) in
    let some : (k : ℕ) → k < length labels → 0 < slice_index numbers k → number_among labels (label_at labels k) ≡ 1 + labels_below labels (label_at labels k) = λ k in_k more.
    number_some labels (label_at labels k) (by.present k in_k ∙ lt-ltb _ _ more) in
    record {
      lt = λ lt. ⊎_elim
          (λ more. omega (arith, ranks_lt labels numbers by i j in_i in_j lt, some i in_i (omega arith), some j in_j more))
          (λ zero. omega (arith, none (omega arith), some i in_i (omega arith)))
          (cases_lt 0 (slice_index numbers j));
      le = λ le. ⊎_elim
          (λ more. omega (arith, ranks_le labels numbers by i j in_i in_j le, some i in_i (omega arith), some j in_j more))
          (λ zero. omega (arith, none (omega arith)))
          (cases_lt 0 (slice_index numbers j));
    }

-- so they order the labels where any do
pub ordered_pairs : (labels : Labels) → IsOrdered labels → (i j : ℕ) → i < length labels → j < length labels → PairAgrees labels (numbers_of labels) i j
ordered_pairs labels ordered i j in_i in_j =
    let numbers : List ℕ = ordered.0 in
    let by : OrderedBy labels numbers = ordered.1 in
    let n_i = number_at labels i in_i in
    let n_j = number_at labels j in_j in
    let up : Grows labels numbers i j = grows labels numbers by i j in_i in_j in
    let down : Grows labels numbers j i = grows labels numbers by j i in_j in_i in
    record {
      over = by.over i j in_i in_j ∙ ⊎_elim
          (λ lt. lt-ltb _ _ lt ∙ sym (lt-ltb _ _ (omega (arith, n_i, n_j, up.lt lt))))
          (λ le. le-ltb _ _ le ∙ sym (le-ltb _ _ (omega (arith, n_i, n_j, down.le le))))
          (cases_lt (slice_index numbers j) (slice_index numbers i));
      apart = λ other same. ⊎_elim
          (λ lt. absurd (omega (arith, n_i, n_j, same, up.lt lt)))
          (λ le. ⊎_elim
          (λ lt. absurd (omega (arith, n_i, n_j, same, down.lt lt)))
          (λ ge.
          let equal : slice_index numbers i ≡ slice_index numbers j = omega arith in
          let zero : slice_index numbers i ≡ 0 = by.apart i j in_i in_j other equal in
          n_i ∙ number_none labels (label_at labels i) (by.present i in_i ∙ le-ltb _ _ (omega arith)))
          (cases_lt (slice_index numbers i) (slice_index numbers j)))
          (cases_lt (slice_index numbers j) (slice_index numbers i));
    }

pub pairs_ordered : (labels : Labels) → ((i j : ℕ) → i < length labels → j < length labels → PairAgrees labels (numbers_of labels) i j) → IsOrdered labels
pairs_ordered labels pairs = (
  numbers_of labels,
  record {
    count = length-map labels (number_among labels);
    present = λ i in_i. number_present labels (label_at labels i) ∙ ap (ltb 0) (sym (number_at labels i in_i));
    apart = λ i j in_i in_j other same. (pairs i j in_i in_j).apart other same;
    over = λ i j in_i in_j. (pairs i j in_i in_j).over;
  },
)
