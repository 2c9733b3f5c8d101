-- Where the run under the schedule so far stands, while `merge` goes through a history.
use Rattle.std.specs.Prelude.{◌≡◌, ◌≤◌, ◌<◌, ℕ, List, slice_get, slice_index, Some}
use Rattle.base.specs.declared.event.Event.{Event}
use Rattle.word_core.specs.History.{memory_of}
use Rattle.word_core.specs.declared.history.Shared.{Shared}
use Rattle.code_core.specs.Instructions.{StepCode}
use Rattle.code_machine.specs.Machine.{CodeProcess}
use Rattle.stamp_table.specs.Passes.{mine}
use Rattle.tick_merge.specs.Local.{Local, IsLocalRun}
use Rattle.tick_merge.specs.Ran.{run_under, memory_in, shared_of, AllRun, occurs, events_by}

-- after `count` instructions by itself process `p` stands so, with these steps and these events
pub record StandsAt (c : StepCode) (p count : ℕ) (q : CodeProcess) (steps : List Shared) (events : List Event) : Type 0 where
  pub local : Local
  pub is_local : IsLocalRun c p count local
  pub process : local.process ≡ q
  pub own : local.steps ≡ steps
  pub gave : local.events ≡ events

-- the run has made just this history, and each process stands in it as it stands by itself
pub record Stands (c : StepCode) (schedule : List ℕ) (history : List Shared) : Type 0 where
  pub run : AllRun c schedule
  pub shared : shared_of c schedule ≡ history
  pub memory : memory_in (run_under c schedule) ≡ memory_of c.sizes.processes c.sizes.rows history
  pub each : (p : ℕ) (q : CodeProcess) → slice_get (run_under c schedule).processes p ≡ Some q
      → StandsAt c p (occurs p schedule) q (mine p history) (events_by p (run_under c schedule).events)

-- no process makes more than its number of instructions
abbrev pub Within : StepCode → List ℕ → List ℕ → Type 0
Within c turns schedule = (p : ℕ) → p < c.sizes.processes → occurs p schedule ≤ slice_index turns p
