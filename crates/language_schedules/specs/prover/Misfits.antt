-- Items that can't follow the steps before them.
use Rattle.std.specs.Prelude.{◌≡◌, ℕ, ◌+◌, ◌<◌, ◌≤◌}
use Rattle.language_schedules.specs.declared.schedule.Item.{Item}
use Rattle.language_schedules.specs.declared.schedule.ScheduleFault.{ScheduleFault}
use Rattle.language_schedules.specs.declared.schedule.ScheduleFault.TheVariants.{BadItem, NoSuchProcess, TooLong, NoMemory}

-- an item that is not one of `n` processes, or has too many steps after so many others
abbrev pub IsMisfit : ℕ → ℕ → ℕ → Item → ScheduleFault → Type 0
IsMisfit n place steps item (BadItem at) = ⊥
IsMisfit n place steps item (NoSuchProcess at) = (at ≡ place) × (n ≤ item.process)
IsMisfit n place steps item TooLong = (item.process < n) × (10000000 < steps + item.steps)
IsMisfit n place steps item NoMemory = ⊥
