-- When a program shows the outcome of a run on threads.
use Rattle.std.specs.Prelude.{◌≡◌, ℕ, List, length, slice_get, Some}
use Rattle.base.specs.declared.status.Status.{Status}
use Rattle.base.specs.declared.status.Status.TheVariants as S
use Rattle.base.specs.declared.run_outcome.RunEnd.{RunEnd}
use Rattle.base.specs.declared.run_outcome.RunEnd.TheVariants.{Ended, Trapped, TurnsSpent, OutputsFull}
use Rattle.base.specs.Observables.{RunObservables}
use Rattle.base.specs.Plain.{WholeProgram}
use Rattle.tick_merge.specs.Local.{outputs_of}
use Rattle.tick_merge.specs.Ran.{events_by}
use Rattle.tick_sim.specs.Laws.{seen}

-- a process whose turns are spent, or whose outputs are full, goes on
abbrev pub status_of : RunEnd → Status
status_of Ended = S.Ended
status_of (Trapped t) = S.Trapped t
status_of TurnsSpent = S.Running
status_of OutputsFull = S.Running

-- Under the schedule each process of the program gives out just the outputs that the outcome has, and
-- comes to the end that it has; and the register rows are the same.
pub record ShowsOutcome (a : WholeProgram ℕ) (schedule : List ℕ) (o : RunObservables) : Type 0 where
  pub all_outputs : length o.outputs ≡ a.processes
  pub all_ends : length o.ends ≡ a.processes
  pub outputs : (p : ℕ) (given : List ℕ) → slice_get o.outputs p ≡ Some given → given ≡ outputs_of (events_by p (seen a schedule).events)
  pub ends : (p : ℕ) (end : RunEnd) → slice_get o.ends p ≡ Some end → slice_get (seen a schedule).statuses p ≡ Some (status_of end)
  pub registers : o.rows ≡ (seen a schedule).rows
