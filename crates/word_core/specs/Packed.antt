-- The labels of all processes as one number. Each label is read as a number in base 3, and has a byte of its
-- own; that of process 0 is lowest. From bit 48 on there is a bit for each process, set if it is present.
use Rattle.std.specs.Prelude.{◌≡◌, ℕ, ◌+◌, ◌-◌, ◌*◌, ◌^◌, Option, None, Some, List, [], ◌∷◌, length, All, IfSome}
use Rattle.label_core.specs.Labels.{IsLabel, label_number}
use Rattle.word_core.specs.Stamps.{Labels}

-- the byte of an absent process is 0
abbrev pub byte : Option (List ℕ) → ℕ
byte None = 0
byte (Some label) = label_number label

abbrev pub presence : Option (List ℕ) → ℕ
presence None = 0
presence (Some label) = 1

-- a number for each process, side by side in fields of so many bits, the first lowest
abbrev pub fields : ℕ → (Option (List ℕ) → ℕ) → Labels → ℕ
fields width number [] = 0
fields width number (label ∷ labels) = fields width number labels * 2 ^ width + number label

abbrev pub word : Labels → ℕ
word labels = fields 1 presence labels * 2 ^ 48 + fields 8 byte labels

-- for each of `n` processes a label of `n - 1` digits, where it is present
pub record AreLabels (n : ℕ) (labels : Labels) : Type 0 where
  pub count : length labels ≡ n
  pub each : All (λ label. IfSome label (IsLabel (n - 1))) labels

-- `bits` is the word of these labels of `n` processes
pub record IsWordOf (n bits : ℕ) (labels : Labels) : Type 0 where
  pub are : AreLabels n labels
  pub packs : word labels ≡ bits
