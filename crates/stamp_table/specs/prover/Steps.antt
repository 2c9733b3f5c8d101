-- What a step has to satisfy by the rule, and what it tells its caller.
use Rattle.std.specs.Prelude.{◌≡◌, ℕ, Bool, true, false, cond, List, [], slice_index, slice_set}
use Rattle.atomic_table.specs.Table.{Me}
use Rattle.word_core.specs.History.{memory_of, after, MayFollow, IsLegal}
use Rattle.word_core.specs.declared.history.Shared.{Shared}
use Rattle.word_core.specs.declared.history.SharedAct.{SharedAct}
use Rattle.word_core.specs.declared.history.SharedAct.TheVariants.{Load, Won, Lost}
use Rattle.stamp_table.specs.Passes.{Holds, none_held, together, by, mine, StartsWith, longer, Extends}
use Rattle.stamp_table.specs.Rule.{table_words, plain}
use Rattle.stamp_table.specs.declared.rule.View.{View}

-- some step, for a play that nobody picked
abbrev pub no_step : ℕ → Shared
no_step found = by 0 (Load found)

-- the act of an exchange, by whether the word found is the old one
abbrev pub exchange_act : Bool → ℕ → ℕ → ℕ → SharedAct
exchange_act same old new found = cond same (Won old new) (Lost old found)

-- a step was made, and is the last that its pass has seen
abbrev pub Does : ℕ → ℕ → Shared → Me ℕ View → Me ℕ View → Type 0
Does n rows s v w = (w ≡ (plain v.0.held w.0.seen, v.1)) × Extends n rows v.0.held v.0.seen s w.0.seen

-- what becomes of a word is what the step makes of it, after whatever legal history
abbrev pub Goes : ℕ → ℕ → List Bool → ℕ → (ℕ → ℕ) → (ℕ → Shared) → Type 0
Goes n rows held word f makes =
    (history : List Shared) → IsLegal n rows history → (found : ℕ) → found ≡ slice_index (table_words (memory_of n rows history)) word
    → MayFollow n rows (memory_of n rows history) (makes found)
    × (slice_set (table_words (memory_of n rows history)) word (f found) ≡ table_words (after (memory_of n rows history) (makes found)))
    × Holds held (makes found).process

-- the view without process `p`, and that of `p` alone
abbrev pub without : ℕ → View → View
without p v = plain (slice_set v.held p false) v.seen

abbrev pub alone : ℕ → View → View
alone p v = plain (slice_set none_held p true) v.seen

-- a view that has taken in another, and what is left of that
abbrev pub joined : View → View → View
joined v w = record { held = v.held; seen = v.seen; more = w.held; told = w.seen }

abbrev pub nobody : View
nobody = plain none_held []

-- the view once it is known which of the two saw more
abbrev pub settled : View → View
settled v = plain (together v.held v.more) (longer v.seen v.told)

-- what a view that has taken in another learns
pub record Learns (n rows : ℕ) (v : View) : Type 0 where
  pub first : StartsWith (longer v.seen v.told) v.seen
  pub second : StartsWith (longer v.seen v.told) v.told
  pub own : (p : ℕ) → Holds v.held p → mine p (longer v.seen v.told) ≡ mine p v.seen
  pub others : (p : ℕ) → Holds v.more p → mine p (longer v.seen v.told) ≡ mine p v.told
  pub legal : IsLegal n rows (longer v.seen v.told)

abbrev pub Settles : ℕ → ℕ → Me ℕ View → Me ℕ View → Type 0
Settles n rows v w = (w ≡ (settled v.0, v.1)) × Learns n rows v.0
