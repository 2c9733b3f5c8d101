-- What holds of every schedule.
use Rattle.std.specs.Prelude.{◌≡◌, ℕ, List, ◌^◌, ◌<◌, ◌≤◌, All, Ok, length}
use Rattle.language_schedules.specs.Schedule.{schedule_of}
use Rattle.language_schedules.specs.Written.{schedule_text}

-- a schedule of at most 10,000,000 steps reads back from its written text
abbrev pub SchedulesLaw : Type 0
SchedulesLaw = (n : ℕ) (steps : List ℕ) → n ≤ 2 ^ 64 → All (λ p. p < n) steps → length steps ≤ 10000000
    → schedule_of n (schedule_text steps) ≡ Ok steps
