-- Who hears what files come to, and the limits of each search.
use Rattle.std.specs.Prelude.{◌≡◌, ◌/◌, ⊤, ℕ, List, [], ◌∷◌, max, min}
use Rattle.searches_states.specs.declared.limits.Limits.{Limits}
use Rattle.ticklab_check.specs.declared.checked.Timed.{Timed}
use Rattle.ticklab_check.specs.declared.fault.CheckFault.{CheckFault}
use Rattle.ticklab_check.specs.declared.fault.CheckFault.TheVariants.{Unheard, NoMemory}
use Rattle.ticklab_check.specs.declared.source.Source.{Source}

-- The listener heard of each file what it comes to, in the order of the files, and of nothing else. What it is for a
-- listener to hear of a file is its own `hears`, of the listener before and after.
module _ {L : Type 0} (hears : L → Source → Timed → L → Type 0) where
  abbrev pub Hears : L → List Source → List Timed → L → Type 0
  Hears before [] [] after = before ≡ after
  Hears before [] (timed ∷ files) after = ⊥
  Hears before (source ∷ sources) [] after = ⊥
  Hears before (source ∷ sources) (timed ∷ files) after =
      (between : L) × hears before source timed between × Hears between sources files after

-- memory was refused, or a listener heard no more, which R says may be
abbrev pub IsOfListener : Type 0 → CheckFault → Type 0
IsOfListener R (Unheard error) = R
IsOfListener R NoMemory = ⊤

-- The limits of each search, where at most so many of so many files are searched at once: the bytes are shared.
abbrev pub shared_limits : ℕ → ℕ → Limits → Limits
shared_limits at_once files limits = record limits { bytes = limits.bytes / max 1 (min at_once files) }
