-- What holds of every label, and of every label that is taken next.
use Rattle.std.specs.Prelude.{◌≡◌, ℕ, ◌-◌, ◌<◌, true, List, [], All, slice_index_or}
use Rattle.label_core.specs.Labels.{IsLabel, IsNumbered, CanChoose, dominates, next}
use Rattle.label_core.specs.declared.table.TheConstants.{DIGITS}

-- each row of the table is the label of five digits that is read as the row's number
abbrev pub DigitsLaw : Type 0
DigitsLaw = (read : ℕ) → read < 243 → IsNumbered 5 read (slice_index_or DIGITS read [])

-- a label of `digits` digits that dominates each of these
pub record IsAbove (digits : ℕ) (labels : List (List ℕ)) (label : List ℕ) : Type 0 where
  pub is : IsLabel digits label
  pub dominates : All (λ other. dominates label other ≡ true) labels

-- the next label of one of `n` processes has `n - 1` digits and dominates each of the others
abbrev pub NextLaw : Type 0
NextLaw = (n : ℕ) (others : List (List ℕ)) → CanChoose n others → IsAbove (n - 1) others (next n others)
