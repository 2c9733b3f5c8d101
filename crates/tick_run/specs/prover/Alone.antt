-- What each process of a run on threads did by itself, in one history of all.
use Rattle.std.specs.Prelude.{◌≡◌, ◌≤◌, ℕ, List, length, slice_get, Some}
use Rattle.base.specs.declared.run_outcome.RunEnd.{RunEnd}
use Rattle.base.specs.Observables.{RunObservables}
use Rattle.word_core.specs.History.{IsLegal, memory_of}
use Rattle.word_core.specs.declared.history.Shared.{Shared}
use Rattle.code_core.specs.Instructions.{StepCode}
use Rattle.stamp_table.specs.Passes.{mine}
use Rattle.tick_merge.specs.Local.{Local, IsLocalRun, outputs_of}
use Rattle.tick_merge.specs.Runs.{EndsAs}

-- Process `p` went by itself as far as it was allowed. On what is shared it made just these steps, it
-- gave out just these values, and it ended so.
pub record RanSo (c : StepCode) (p turns outs : ℕ) (steps : List Shared) (given : List ℕ) (end : RunEnd) : Type 0 where
  pub count : ℕ
  pub local : Local
  pub is_local : IsLocalRun c p count local
  pub own : local.steps ≡ steps
  pub gave : given ≡ outputs_of local.events
  pub turns_kept : count ≤ turns
  pub outputs_kept : length given ≤ outs
  pub ends_as : EndsAs end c local.process count turns (length given) outs

-- There is one legal history in which each process made just the steps that it makes by itself, and the
-- registers are those that it leaves.
pub record IsThreadedRun (c : StepCode) (turns outs : ℕ) (o : RunObservables) : Type 0 where
  pub history : List Shared
  pub legal : IsLegal c.sizes.processes c.sizes.rows history
  pub all_outputs : length o.outputs ≡ c.sizes.processes
  pub all_ends : length o.ends ≡ c.sizes.processes
  pub each : (p : ℕ) (given : List ℕ) (end : RunEnd) → slice_get o.outputs p ≡ Some given → slice_get o.ends p ≡ Some end
      → RanSo c p turns outs (mine p history) given end
  pub registers : o.rows ≡ (memory_of c.sizes.processes c.sizes.rows history).rows
