-- What a table of names has for the letters of a name.
use Rattle.std.specs.Borrow.{Bor}
use Rattle.std.specs.Prelude.{ℕ, List, Option}
use Rattle.std.specs.Str.{bytes_eq}
use Rattle.indexmap.specs.IndexMap.{IndexMap, get_by}
use Rattle.tick_kinds.specs.Declarations.{Slot}

abbrev pub slot_at : {S : Type 0} → IndexMap (Bor (List ℕ)) Slot S → List ℕ → Option Slot
slot_at m letters = get_by (λ k. bytes_eq letters k.now) m
