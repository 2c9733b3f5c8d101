-- Where the parts of a run begin that goes round for ever.
use Rattle.std.specs.Prelude.{ℕ, ◌-◌, ◌==◌, if◌then◌else◌, Option, Some, None}
use Rattle.ticklab_trace.specs.declared.parts.Parts.{Parts}

-- The first so many steps are the schedule, the last so many are the round, and there are so many in all. What doesn't go
-- round has no parts.
abbrev pub parts_of : ℕ → ℕ → ℕ → Option Parts
parts_of schedule round all = if round == 0 then None else Some (record { lead_in = schedule; cycle = all - round })
