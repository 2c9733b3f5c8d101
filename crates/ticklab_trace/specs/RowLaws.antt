-- What holds of all rows of private steps: of those of these steps, which stand behind so many others of a run with these parts.
use Rattle.std.specs.Prelude.{◌≡◌, ℕ, ◌+◌, ◌<◌, ◌≤◌, ◌==◌, ◌&&◌, if◌then◌else◌, is_none, nat_le, nat_lt, Bool, false, List, [], ◌∷◌, length, slice_get, Option, Some, None, option_and_then, option_map}
use Rattle.ticklab_trace.specs.Folds.{rows_from}
use Rattle.ticklab_trace.specs.Parts.{begun_at}
use Rattle.ticklab_trace.specs.declared.folds.Privacy.{Privacy}
use Rattle.ticklab_trace.specs.declared.folds.Row.{Row}
use Rattle.ticklab_trace.specs.declared.parts.Parts.{Parts}

-- these rows have steps, and stand one behind the other, from behind so many steps on, up to behind so many
abbrev pub AreInOrder : ℕ → ℕ → List Row → Type 0
AreInOrder low high [] = low ≤ high
AreInOrder low high (row ∷ rows) = (low ≤ row.first) × (row.first < row.end) × AreInOrder row.end high rows

abbrev pub InOrderLaw : Type 0
InOrderLaw = (parts : Option Parts) (before : ℕ) (steps : List Privacy)
    → AreInOrder before (before + length steps) (rows_from parts before None steps)

-- the row in which the step behind so many others stands
abbrev pub row_of : List Row → ℕ → Option Row
row_of [] number = None
row_of (row ∷ rows) number =
    if nat_lt number row.end then (if nat_le row.first number then Some row else None) else row_of rows number

-- whose step it is, where it is private
abbrev pub owner : Privacy → Option ℕ
owner step = if step.is_private then Some step.process else None

-- a private step stands in a row of its process, and no other step stands in one
abbrev pub StandsLaw : Type 0
StandsLaw = (parts : Option Parts) (before : ℕ) (steps : List Privacy) (i : ℕ)
    → option_map (λ row. row.process) (row_of (rows_from parts before None steps) (before + i)) ≡ option_and_then owner (slice_get steps i)

-- whether two steps stand in one row
abbrev pub is_one : Option Row → Option Row → Bool
is_one (Some row) (Some other) = row.first == other.first
is_one row other = false

-- whether a step and the next one, before which so many stand, are private, of one process, and of one part
abbrev pub are_alike : Option Parts → ℕ → Option Privacy → Option Privacy → Bool
are_alike parts number (Some step) (Some next) =
    step.is_private && (next.is_private && (next.process == step.process) && is_none (begun_at parts number))
are_alike parts number step next = false

-- a step and the next one stand in one row where they are so, and only there: no row can be longer
abbrev pub TogetherLaw : Type 0
TogetherLaw = (parts : Option Parts) (before : ℕ) (steps : List Privacy) (i : ℕ)
    → is_one (row_of (rows_from parts before None steps) (before + i)) (row_of (rows_from parts before None steps) (before + i + 1))
    ≡ are_alike parts (before + i + 1) (slice_get steps i) (slice_get steps (i + 1))
