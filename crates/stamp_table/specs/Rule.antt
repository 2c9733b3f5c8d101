-- The rule of a table: there is one legal history of which every pass has seen a beginning.
use Rattle.std.specs.Prelude.{◌≡◌, ◌⊎◌, ℕ, Bool, List, [], ◌∷◌}
use Rattle.std.specs.List.{concat}
use mathlib.Core.Option.{some}
use lib.ListN.{get_elem?}
use Rattle.atomic_table.specs.Table.{State}
use Rattle.word_core.specs.Packed.{word}
use Rattle.word_core.specs.History.{Memory, memory_of, IsLegal}
use Rattle.word_core.specs.declared.history.Shared.{Shared}
use Rattle.stamp_table.specs.Passes.{Holds, first_held, none_held, mine, StartsWith}
use Rattle.stamp_table.specs.declared.rule.View.{View}

-- the words of a table: that of the labels, then the registers, row after row
abbrev pub table_words : Memory → List ℕ
table_words m = word m.labels ∷ concat m.rows

-- the view of a pass that holds these processes and has seen these steps
abbrev pub plain : List Bool → List Shared → View
plain held seen = record { held = held; seen = seen; more = none_held; told = [] }

-- the first pass of a table of `n` processes holds them all
abbrev pub first_view : ℕ → View
first_view n = plain (first_held n) []

-- A pass that has taken in another has both views, until it finds which of the two saw more.
abbrev pub HoldsOne : View → ℕ → Type 0
HoldsOne v p = Holds v.held p ⊎ Holds v.more p

abbrev pub At : List View → ℕ → View → Type 0
At views j v = get_elem? views j ≡ some v

-- what was seen is a beginning of the history, and of each process that is held all steps were seen
pub record Knows (history : List Shared) (v : View) : Type 0 where
  pub seen : StartsWith history v.seen
  pub told : StartsWith history v.told
  pub own : (p : ℕ) → Holds v.held p → mine p v.seen ≡ mine p history
  pub others : (p : ℕ) → Holds v.more p → mine p v.told ≡ mine p history

-- no process is held by two passes
abbrev pub Apart : List View → Type 0
Apart views = (j k p : ℕ) (v w : View) → At views j v → At views k w → HoldsOne v p → HoldsOne w p → j ≡ k

-- some pass has seen all of the history
abbrev pub Newest : List Shared → List View → Type 0
Newest history views = (j : ℕ) × (v : View) × At views j v × ((v.seen ≡ history) ⊎ (v.told ≡ history))

-- one legal history, what stands in the words, and what the passes know
pub record IsKept (n rows : ℕ) (s : State ℕ View) : Type 0 where
  pub history : List Shared
  pub words : s.words ≡ table_words (memory_of n rows history)
  pub legal : IsLegal n rows history
  pub knows : (j : ℕ) (v : View) → At s.views j v → Knows history v
  pub apart : Apart s.views
  pub newest : Newest history s.views
