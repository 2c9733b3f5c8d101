-- What holds of the values of all properties, also where something traps.
use Rattle.std.specs.Prelude.{◌≡◌, ℕ, List}
use Rattle.base.specs.Refusing.{◌>>=◌}
use Rattle.language_properties.specs.declared.property.Junction.TheVariants as J
use Rattle.language_properties.specs.declared.property.Quantifier.TheVariants as Q
use Rattle.language_properties.specs.Properties.{Formula, joined, negated, over}
use Rattle.language_properties.specs.Values.{SeenState, value, truth_of}

-- of `not`, `and`, `or`, `some` and `all`
pub record ValuesLaw : Type 0 where
  pub twice : (s : SeenState) (processes : List ℕ) (e : Formula)
      → value s processes (negated (negated e)) ≡ (value s processes e >>= truth_of)
  pub either : (s : SeenState) (processes : List ℕ) (e f : Formula)
      → value s processes (joined e J.Or f) ≡ value s processes (negated (joined (negated e) J.And (negated f)))
  pub some : (s : SeenState) (processes : List ℕ) (i : ℕ) (e : Formula)
      → value s processes (over Q.Some i e) ≡ value s processes (negated (over Q.All i (negated e)))

-- Two states that all see alike: who holds a ticket, which of two tickets is older, and all else but the tickets.
pub record IsSeenAlike (s t : SeenState) : Type 0 where
  pub held : (p : ℕ) → s.holds p ≡ t.holds p
  pub older : (p q : ℕ) → s.is_older p q ≡ t.is_older p q
  pub rows : s.rows ≡ t.rows
  pub statuses : s.statuses ≡ t.statuses

-- a property has the same value in both
abbrev pub AlikeLaw : Type 0
AlikeLaw = (s t : SeenState) → IsSeenAlike s t → (processes : List ℕ) (e : Formula) → value s processes e ≡ value t processes e
