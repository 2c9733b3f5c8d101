-- What the packing code reads and writes.
use Rattle.std.proofs.Common.{◌≡◌, ℕ, zero, suc, ◌+◌, ◌-◌, ◌*◌, ◌/◌, ◌%◌, ◌^◌, ◌<◌, ◌≤◌, Option, None, Some, List, [], ◌∷◌, ◌++◌, length, replicate, refl, ap}
use Rattle.label_core.specs.Labels.{digits_in}
use Rattle.word_core.specs.Stamps.{Labels, present}

-- the byte of process `i`
abbrev pub byte_in : ℕ → ℕ → ℕ
byte_in bits i = bits / 2 ^ (8 * i) % 256

-- its presence bit
abbrev pub presence_in : ℕ → ℕ → ℕ
presence_in bits i = bits / 2 ^ (48 + i) % 2

-- what a byte and a presence bit tell
abbrev pub label_of : ℕ → ℕ → ℕ → Option (List ℕ)
label_of digits byte zero = None
label_of digits byte (suc present) = Some (digits_in digits byte)

-- the label of process `i`
abbrev pub label_in : ℕ → ℕ → ℕ → Option (List ℕ)
label_in digits bits i = label_of digits (byte_in bits i) (presence_in bits i)

-- the labels of so many processes, from this one on
abbrev pub labels_from : ℕ → ℕ → ℕ → ℕ → Labels
labels_from zero digits bits i = []
labels_from (suc count) digits bits i = label_in digits bits i ∷ labels_from count digits bits (suc i)

abbrev pub labels_in : ℕ → ℕ → Labels
labels_in n bits = labels_from n (n - 1) bits 0

length-labels_from : (count digits bits i : ℕ) → length (labels_from count digits bits i) ≡ count
length-labels_from zero digits bits i = refl
length-labels_from (suc count) digits bits i = ap suc (length-labels_from count digits bits (suc i))

pub length-labels_in : (n bits : ℕ) → length (labels_in n bits) ≡ n
length-labels_in n bits = length-labels_from n (n - 1) bits 0

-- an absent process has byte 0, and one that is present the number of a label
abbrev pub Counts : ℕ → ℕ → ℕ → Type 0
Counts digits byte zero = byte ≡ 0
Counts digits byte (suc present) = byte < 3 ^ digits

-- no bit is set past the bytes and the presence bits of `n` processes
pub record Fits (n bits : ℕ) : Type 0 where
  pub bytes : bits % 2 ^ 48 < 2 ^ (8 * n)
  pub presences : bits / 2 ^ 48 < 2 ^ n

-- each of `n` processes has what it may have
abbrev pub AllCount : ℕ → ℕ → Type 0
AllCount n bits = (i : ℕ) → i < n → Counts (n - 1) (byte_in bits i) (presence_in bits i)

-- a row has the labels of those that are present, empty ones past them, and so many they are
pub record AreGathered (labels : Labels) (row : List (List ℕ)) (count : ℕ) : Type 0 where
  pub there : row ≡ present labels ++ replicate (6 - length (present labels)) []
  pub many : count ≡ length (present labels)
  pub few : count ≤ length labels

-- so many fields of ones, but zeros in that of `p`
abbrev pub all_but : ℕ → ℕ → ℕ → ℕ
all_but width zero p = 0
all_but width (suc count) zero = (2 ^ (width * count) - 1) * 2 ^ width + 0
all_but width (suc count) (suc p) = all_but width count p * 2 ^ width + (2 ^ width - 1)

-- ones in the bytes and the presence bits of all processes but `p`
abbrev pub mask_but : ℕ → ℕ
mask_but p = all_but 1 6 p * 2 ^ 48 + all_but 8 6 p
