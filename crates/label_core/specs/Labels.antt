-- Labels as lists of digits 0, 1, 2, the outermost cycle first; which of two dominates; which one
-- a process takes next.
use Rattle.std.specs.Prelude.{◌≡◌, ℕ, suc, zero, ◌+◌, ◌-◌, ◌*◌, ◌/◌, ◌%◌, ◌^◌, ◌<◌, ◌≤◌, ◌==◌, nat_le, Bool, true, false, ◌&&◌, ◌||◌, if◌then◌else◌, Option, None, Some, List, [], ◌∷◌, length, map, replicate, All, Contains, find, count_by}
use Rattle.std.specs.List.{list_all}

-- a label of `digits` digits, each below 3
pub record IsLabel (digits : ℕ) (label : List ℕ) : Type 0 where
  pub len : length label ≡ digits
  pub small : All (λ digit. digit < 3) label

-- a label read as a number in base 3, its first digit highest
abbrev pub label_number : List ℕ → ℕ
label_number [] = 0
label_number (digit ∷ digits) = digit * 3 ^ length digits + label_number digits

-- the `count` digits of a number below `3 ^ count` in base 3, the highest first
abbrev pub digits_in : ℕ → ℕ → List ℕ
digits_in zero read = []
digits_in (suc count) read = read / 3 ^ count ∷ digits_in count (read % 3 ^ count)

-- the label of `digits` digits that is read as this number
pub record IsNumbered (digits read : ℕ) (label : List ℕ) : Type 0 where
  pub is : IsLabel digits label
  pub reads : label_number label ≡ read

-- the digit that dominates this one: 1 over 0, 2 over 1, 0 over 2
abbrev pub next_digit : ℕ → ℕ
next_digit digit = (digit + 1) % 3

-- whether the first label dominates the second: at the first place at which they differ, its digit
-- is the next one of the other's
abbrev pub dominates : List ℕ → List ℕ → Bool
dominates [] label = false
dominates (digit ∷ digits) [] = false
dominates (digit ∷ digits) (other ∷ others) =
    if digit == other then dominates digits others else digit == next_digit other

abbrev pub same_label : List ℕ → List ℕ → Bool
same_label [] [] = true
same_label [] (other ∷ others) = false
same_label (digit ∷ digits) [] = false
same_label (digit ∷ digits) (other ∷ others) = (digit == other) && same_label digits others

-- whether the first label dominates or equals the second
abbrev pub at_least : List ℕ → List ℕ → Bool
at_least label other = dominates label other || same_label label other

-- whether a label dominates or equals each of these
abbrev pub is_greatest : List (List ℕ) → List ℕ → Bool
is_greatest labels label = list_all (at_least label) labels

-- the first of the labels that dominates or equals each of them
abbrev pub greatest : List (List ℕ) → Option (List ℕ)
greatest labels = find (is_greatest labels) labels

-- what follows this first digit in the labels that begin with it
abbrev pub sharing : ℕ → List (List ℕ) → List (List ℕ)
sharing digit [] = []
sharing digit ([] ∷ labels) = sharing digit labels
sharing digit ((first ∷ rest) ∷ labels) =
    if first == digit then rest ∷ sharing digit labels else sharing digit labels

-- The new label beside `labels`, of which `greatest` is one. With `k - 1` digits to choose, at most
-- `k - 2` of the labels may share the first digit of the greatest for the new one to take it too;
-- else it takes the next digit, and 0 from there on.
abbrev pub choice : List ℕ → List (List ℕ) → List ℕ
choice [] labels = []
choice (digit ∷ digits) labels =
    if nat_le (length (sharing digit labels)) (length digits)
    then digit ∷ choice digits (sharing digit labels)
    else next_digit digit ∷ replicate (length digits) 0

abbrev pub zeros : ℕ → List ℕ
zeros digits = replicate digits 0

-- the choice beside the greatest label, or all digits 0 where there is none
abbrev pub choice_beside : ℕ → Option (List ℕ) → List (List ℕ) → List ℕ
choice_beside digits None labels = zeros digits
choice_beside digits (Some label) labels = choice label labels

-- the label that one of `n` processes takes next, beside the labels of others
abbrev pub next : ℕ → List (List ℕ) → List ℕ
next n others = choice_beside (n - 1) (greatest others) others

-- one of the labels dominates or equals each of them
pub record HasGreatest (labels : List (List ℕ)) : Type 0 where
  pub label : List ℕ
  pub member : Contains labels label
  pub over : is_greatest labels label ≡ true

-- labels of others beside which one of `n` processes can take its next: at most `n - 1` of them,
-- each of `n - 1` digits, and one of them greatest where there are any
pub record CanChoose (n : ℕ) (others : List (List ℕ)) : Type 0 where
  pub few : length others ≤ n - 1
  pub labels : All (IsLabel (n - 1)) others
  pub top : 0 < length others → HasGreatest others

-- how many of the labels this one dominates
abbrev pub dominated : List (List ℕ) → List ℕ → ℕ
dominated labels label = count_by (dominates label) labels

-- for each label, how many of the labels it dominates
abbrev pub label_ranks : List (List ℕ) → List ℕ
label_ranks labels = map (dominated labels) labels

-- digits of a label: at most five, each below 3
pub record AreDigits (digits : List ℕ) : Type 0 where
  pub few : length digits ≤ 5
  pub small : All (λ digit. digit < 3) digits

-- labels of one length
abbrev pub AreAlike : List (List ℕ) → Type 0
AreAlike labels = (digits : ℕ) × All (IsLabel digits) labels

-- with how many of the first label's digits the second begins
abbrev pub digits_shared : List ℕ → List ℕ → ℕ
digits_shared [] label = 0
digits_shared (digit ∷ digits) [] = 0
digits_shared (digit ∷ digits) (first ∷ rest) = if first == digit then suc (digits_shared digits rest) else 0
