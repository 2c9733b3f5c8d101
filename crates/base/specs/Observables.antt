-- What a run lets others see: one record for every machine.
use Rattle.std.specs.Prelude.{ℕ, ◌-◌, List, [], ◌∷◌, ◌++◌, map, replicate, Option, Some, None}
use Rattle.base.specs.declared.event.Act.{Act}
use Rattle.base.specs.declared.event.Event.{Event}
use Rattle.base.specs.declared.status.Status.{Status}
use Rattle.base.specs.declared.outcome.Outcome.{Outcome}
use Rattle.base.specs.declared.run_outcome.RunEnd.{RunEnd}
use Rattle.base.specs.declared.run_outcome.RunOutcome.{RunOutcome}

-- The events in the order of their steps, the register rows, and for each process its status.
pub record Observables : Type 0 where
  pub events : List Event
  pub rows : List (List ℕ)
  pub statuses : List Status

-- what an outcome holds
abbrev pub observed : Outcome → Observables
observed o = record { events = o.events.items; rows = map (λ row. row.items) o.registers.items; statuses = o.statuses.items }

-- What a run on threads lets others see, where no order of all events is known: for each process the
-- values that it gave out and how it came to its end, and the register rows.
pub record RunObservables : Type 0 where
  pub outputs : List (List ℕ)
  pub ends : List RunEnd
  pub rows : List (List ℕ)

-- what the outcome of such a run holds
abbrev pub run_observed : RunOutcome → RunObservables
run_observed o = record {
  outputs = map (λ values. values.items) o.outputs.items;
  ends = o.ends.items;
  rows = map (λ row. row.items) o.registers.items;
}

-- the events with that of a step of process `p`, where it has one
abbrev pub told : ℕ → Option Act → List Event → List Event
told p None events = events
told p (Some act) events = events ++ record { process = p; act = act } ∷ []

-- the ranks of `n` processes as an event tells them, 0 past the last process
abbrev pub told_ranks : ℕ → List ℕ → List ℕ
told_ranks n ranks = ranks ++ replicate (6 - n) 0
