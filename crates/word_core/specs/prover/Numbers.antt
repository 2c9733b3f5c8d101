-- The numbers by which ordered labels are ordered.
use Rattle.std.specs.Prelude.{◌≡◌, ◌≢◌, ℕ, ◌+◌, ◌<◌, nat_lt, Option, None, Some, List, ◌++◌, ◌-◌, ◌≤◌, length, map, replicate, slice_index}
use Rattle.label_core.specs.Labels.{dominated}
use Rattle.word_core.specs.Stamps.{Labels, label_at, present}
use Rattle.word_core.specs.Order.{above, labels_below}

-- 0 where it is absent, else one more than how many it is above
abbrev pub number_among : Labels → Option (List ℕ) → ℕ
number_among labels None = 0
number_among labels (Some label) = 1 + labels_below labels (Some label)

abbrev pub numbers_of : Labels → List ℕ
numbers_of labels = map (number_among labels) labels

-- what numbers that order labels say of two processes
pub record PairAgrees (labels : Labels) (numbers : List ℕ) (i j : ℕ) : Type 0 where
  pub over : above (label_at labels i) (label_at labels j) ≡ nat_lt (slice_index numbers j) (slice_index numbers i)
  pub apart : i ≢ j → slice_index numbers i ≡ slice_index numbers j → slice_index numbers i ≡ 0

-- no two of the numbers are equal
abbrev pub AreApart : List ℕ → Type 0
AreApart numbers = (i j : ℕ) → i < j → j < length numbers → slice_index numbers i ≢ slice_index numbers j

-- how many labels each of those that are present dominates, 0 past them, and how many there are
pub record AreRanks (labels : Labels) (row : List ℕ) (count : ℕ) : Type 0 where
  pub among : row ≡ map (dominated (present labels)) (present labels) ++ replicate (6 - length (present labels)) 0
  pub many : count ≡ length (present labels)
  pub few : count ≤ length labels
