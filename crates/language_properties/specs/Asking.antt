-- For which parts of what all can see a property asks.
use Rattle.std.specs.Prelude.{◌≡◌, ℕ, ◌==◌, Bool, true, false, ◌||◌, List, length}
use Rattle.language_properties.specs.declared.asks.Part.{Part}
use Rattle.language_properties.specs.declared.asks.Part.TheVariants as P
use Rattle.language_properties.specs.declared.property.Question.{Question}
use Rattle.language_properties.specs.declared.property.Question.TheVariants as A
use Rattle.language_properties.specs.Properties.{Formula, number, count, bound, asked, older, binary, joined, negated, over}
use Rattle.language_properties.specs.Values.{SeenState, answer, value}

-- whether this is asked of a part
abbrev pub is_of : Part → Question → Bool
is_of (P.Row row) (A.Row r) = r == row
is_of P.Tickets A.Held = true
is_of P.Statuses A.Ended = true
is_of P.Statuses A.Trapped = true
is_of _ _ = false

-- whether the order of tickets belongs to it
abbrev pub is_order : Part → Bool
is_order P.Tickets = true
is_order _ = false

abbrev pub asks : Part → Formula → Bool
asks part (number v) = false
asks part count = false
asks part (bound i) = false
asks part (asked question e) = is_of part question || asks part e
asks part (older e f) = is_order part || asks part e || asks part f
asks part (binary a op b) = asks part a || asks part b
asks part (joined a by b) = asks part a || asks part b
asks part (negated e) = asks part e
asks part (over quantifier i e) = asks part e

-- Two states of as many processes that all see alike, but for this part.
pub record IsAlikeBut (part : Part) (s t : SeenState) : Type 0 where
  pub answers : (question : Question) (p : ℕ) → is_of part question ≡ false → answer s question p ≡ answer t question p
  pub order : (p q : ℕ) → is_order part ≡ false → s.is_older p q ≡ t.is_older p q
  pub processes : length s.statuses ≡ length t.statuses

-- a property that doesn't ask for it has the same value in both
abbrev pub UnaskedLaw : Type 0
UnaskedLaw =
    (part : Part) (s t : SeenState) → IsAlikeBut part s t → (processes : List ℕ) (e : Formula) → asks part e ≡ false
    → value s processes e ≡ value t processes e
