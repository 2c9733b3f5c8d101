-- Labels that are in the order of whole numbers.
use Rattle.std.specs.Prelude.{◌≡◌, ◌≢◌, ℕ, ◌<◌, Bool, true, false, nat_lt, Option, None, Some, List, length, map, count_by, slice_index}
use Rattle.label_core.specs.Labels.{dominates}
use Rattle.word_core.specs.Stamps.{Labels, label_at, is_present}

-- an absent process is below each that is present; of two present ones labels tell
abbrev pub above : Option (List ℕ) → Option (List ℕ) → Bool
above None other = false
above (Some label) None = true
above (Some label) (Some other) = dominates label other

-- one number for each process: 0 exactly to the absent, no other number twice, and a process is above
-- another exactly where its number is
pub record OrderedBy (labels : Labels) (numbers : List ℕ) : Type 0 where
  pub count : length numbers ≡ length labels
  pub present : (i : ℕ) → i < length labels → is_present (label_at labels i) ≡ nat_lt 0 (slice_index numbers i)
  pub apart : (i j : ℕ) → i < length labels → j < length labels → i ≢ j
      → slice_index numbers i ≡ slice_index numbers j → slice_index numbers i ≡ 0
  pub over : (i j : ℕ) → i < length labels → j < length labels
      → above (label_at labels i) (label_at labels j) ≡ nat_lt (slice_index numbers j) (slice_index numbers i)

abbrev pub IsOrdered : Labels → Type 0
IsOrdered labels = (numbers : List ℕ) × OrderedBy labels numbers

-- whether `j` is above `i`
abbrev pub older_label : Labels → ℕ → ℕ → Bool
older_label labels i j = above (label_at labels j) (label_at labels i)

-- how many processes this one is above
abbrev pub labels_below : Labels → Option (List ℕ) → ℕ
labels_below labels label = count_by (above label) labels

-- for each process, how many it is above
abbrev pub label_ranks : Labels → List ℕ
label_ranks labels = map (labels_below labels) labels
