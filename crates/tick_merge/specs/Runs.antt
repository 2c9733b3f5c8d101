-- The outcome of a run on threads: it is the outcome of one run of the code machine.
use Rattle.std.specs.Prelude.{◌≡◌, ◌<◌, ◌≤◌, ℕ, true, List, length, slice_get, Some}
use Rattle.base.specs.declared.status.Status.TheVariants as S
use Rattle.base.specs.declared.run_outcome.RunEnd.{RunEnd}
use Rattle.base.specs.declared.run_outcome.RunEnd.TheVariants.{Ended, Trapped, TurnsSpent, OutputsFull}
use Rattle.base.specs.Observables.{RunObservables}
use Rattle.code_core.specs.Instructions.{StepCode}
use Rattle.code_machine.specs.Machine.{CodeProcess}
use Rattle.code_machine.specs.Process.{gives_out}
use Rattle.tick_merge.specs.Local.{outputs_of}
use Rattle.tick_merge.specs.Ran.{run_under, AllRun, occurs, events_by}

-- A process ends so after `count` of `turns` instructions, where it has given out `given` of `outs`
-- values. Turns count before outputs, and one that has stopped has spent neither.
abbrev pub EndsAs : RunEnd → StepCode → CodeProcess → ℕ → ℕ → ℕ → ℕ → Type 0
EndsAs Ended c q count turns given outs = q.status ≡ S.Ended
EndsAs (Trapped t) c q count turns given outs = q.status ≡ S.Trapped t
EndsAs TurnsSpent c q count turns given outs = (q.status ≡ S.Running) × (count ≡ turns)
EndsAs OutputsFull c q count turns given outs =
    (count < turns) × (given ≡ outs) × (gives_out q.status (slice_get c.instructions q.place) ≡ true)

-- In the run of the code under this schedule process `p` makes at most `turns` instructions, gives out
-- just these values, and ends so.
pub record EndedSo (c : StepCode) (schedule : List ℕ) (p turns outs : ℕ) (given : List ℕ) (end : RunEnd) : Type 0 where
  pub process : CodeProcess
  pub there : slice_get (run_under c schedule).processes p ≡ Some process
  pub turns_kept : occurs p schedule ≤ turns
  pub gave : given ≡ outputs_of (events_by p (run_under c schedule).events)
  pub outputs_kept : length given ≤ outs
  pub ends_as : EndsAs end c process (occurs p schedule) turns (length given) outs

-- There is one schedule of the code, in which no process comes after it stopped, that gives all outputs,
-- all ends and the registers.
pub record IsWholeRun (c : StepCode) (turns outs : ℕ) (o : RunObservables) : Type 0 where
  pub schedule : List ℕ
  pub run : AllRun c schedule
  pub all_outputs : length o.outputs ≡ c.sizes.processes
  pub all_ends : length o.ends ≡ c.sizes.processes
  pub each : (p : ℕ) (given : List ℕ) (end : RunEnd) → slice_get o.outputs p ≡ Some given → slice_get o.ends p ≡ Some end
      → EndedSo c schedule p turns outs given end
  pub registers : o.rows ≡ (run_under c schedule).rows
