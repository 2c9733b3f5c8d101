-- Lines that tell why an input is refused.
use Rattle.std.specs.Prelude.{◌++◌, ℕ, List, codes}
use Rattle.language_schedules.specs.declared.schedule.ScheduleFault.{ScheduleFault}
use Rattle.ticketc_refusals.specs.declared.refusal.Refusal.TheVariants.{Schedule}
use Rattle.ticklab_explain.specs.Reports.{IsReport}
use Rattle.ticklab_explain.specs.Settings.{move_items}

-- a program whose code isn't made
abbrev pub too_long_line : List ℕ → List ℕ
too_long_line name = name ++ codes ": error: its code would have more than 65535 instructions\n"

-- the report of a text that spells no stamps and clears of so many processes
unfoldable pub IsMisspelled : ℕ → List ℕ → ScheduleFault → List ℕ → Type 0
IsMisspelled n text fault report = IsReport (move_items n) (codes "STAMPS") text (Schedule fault) report
