-- The parts of a run that goes on for ever: a schedule, the steps that lead on from where it ends, and one round of those
-- that repeat. Any other run is a schedule alone.
use Rattle.std.specs.Prelude.{ℕ, ◌-◌, ◌==◌, if◌then◌else◌, nat_lt, Bool, true, false, List, [], Option, Some, None, codes}
use Rattle.ticklab_trace.specs.declared.parts.Part.{Part}
use Rattle.ticklab_trace.specs.declared.parts.Part.TheVariants.{Schedule, LeadIn, Cycle}
use Rattle.ticklab_trace.specs.declared.parts.Parts.{Parts}

-- the part to which the step behind so many others belongs
abbrev pub part_in : Parts → ℕ → Part
part_in parts before =
    if nat_lt before parts.lead_in then Schedule else if nat_lt before parts.cycle then LeadIn else Cycle

abbrev pub part_at : Option Parts → ℕ → Part
part_at None before = Schedule
part_at (Some parts) before = part_in parts before

abbrev pub is_same : Part → Part → Bool
is_same Schedule Schedule = true
is_same LeadIn LeadIn = true
is_same Cycle Cycle = true
is_same one other = false

-- a part, where the part before it is another
abbrev pub begun_after : Part → Part → Option Part
begun_after last part = if is_same part last then None else Some part

-- the part of the step before, and that of a schedule before the first
abbrev pub last_part : Option Parts → ℕ → Part
last_part parts before = if before == 0 then Schedule else part_at parts (before - 1)

-- the part that begins with the step behind so many others, where one does
abbrev pub begun_at : Option Parts → ℕ → Option Part
begun_at parts before = begun_after (last_part parts before) (part_at parts before)

-- what stands before its steps
abbrev pub part_name : Part → List ℕ
part_name Schedule = []
part_name LeadIn = codes "these steps lead on"
part_name Cycle = codes "again and again"
