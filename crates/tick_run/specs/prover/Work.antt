-- What workers start with, and what they come back with.
use Rattle.std.specs.Prelude.{◌≡◌, ◌<◌, ◌≤◌, ℕ, min, List, [], length, map, slice_get, Some, Vec, vec_items, vec_len, vec_capacity}
use Rattle.std.specs.Global.{Global}
use Rattle.base.specs.declared.run_outcome.RunEnd.{RunEnd}
use Rattle.code_core.specs.Instructions.{StepCode}
use Rattle.code_machine.specs.Machine.{start_process}
use Rattle.code_machine.specs.Process.{OneProcess, IsOf}
use Rattle.stamp_table.specs.Passes.{TableView, PassView, Holds, mine}
use Rattle.tick_run.specs.prover.Alone.{RanSo}
use Rattle.tick_run.specs.prover.Turns.{IsAt, IsFor}
use Rattle.tick_run.specs.declared.gathering.Gathered.{Gathered}
use Rattle.tick_run.specs.declared.jobs.Job.{Job}

-- process `p` before its first instruction, with a pass that has seen nothing and room for its outputs
pub record CanWork (t : TableView) (c : StepCode) (p turns outs : ℕ) (one : OneProcess) (pass : PassView) (given : List ℕ) (room : ℕ) : Type 0 where
  pub me : one.me ≡ p
  pub of : IsOf c one
  pub start : one.process ≡ start_process c.sizes
  pub here : pass.table ≡ t
  pub held : Holds pass.held p
  pub unseen : pass.seen ≡ []
  pub empty : given ≡ []
  pub has_room : min turns outs ≤ room

-- in the middle of its work, after `count` instructions
pub record IsWorking (t : TableView) (c : StepCode) (p turns outs count : ℕ) (one : OneProcess) (pass : PassView) (given : List ℕ) (room : ℕ) : Type 0 where
  pub me : one.me ≡ p
  pub of : IsOf c one
  pub here : pass.table ≡ t
  pub held : Holds pass.held p
  pub at : IsAt c p count one.process (mine p pass.seen) given
  pub made : length given ≤ count
  pub few : length given ≤ outs
  pub has_room : min turns outs ≤ room

-- it went as far as it was allowed
pub record IsWork (t : TableView) (c : StepCode) (p turns outs : ℕ) (pass : PassView) (given : List ℕ) (end : RunEnd) : Type 0 where
  pub here : pass.table ≡ t
  pub held : Holds pass.held p
  pub ran : RanSo c p turns outs (mine p pass.seen) given end

-- each process with the job at its place
abbrev pub AreReady : {G : Type 0} → TableView → StepCode → ℕ → ℕ → List (Job G) → Type 0
AreReady {G} t c turns outs jobs = (p : ℕ) (job : Job G) → slice_get jobs p ≡ Some job
    → (job.process ≡ p) × CanWork t c p turns outs job.proc job.pass (vec_items job.outputs) (vec_capacity job.outputs)

-- The first `made` processes have jobs, and the pass that is left holds the others.
pub record AreSplit {G : Type 0} (t : TableView) (c : StepCode) (turns outs made : ℕ) (left : PassView) (jobs : List (Job G)) : Type 0 where
  pub here : left.table ≡ t
  pub held : (p : ℕ) → made ≤ p → p < t.n → Holds left.held p
  pub unseen : left.seen ≡ []
  pub count : length jobs ≡ made
  pub ready : AreReady t c turns outs jobs

-- what the workers of the first `n` processes came back with, each at its place
pub record Gathers (t : TableView) (c : StepCode) (turns outs n : ℕ) (passes : List PassView) (outputs : List (List ℕ)) (ends : List RunEnd) : Type 0 where
  pub all_passes : length passes ≡ n
  pub all_outputs : length outputs ≡ n
  pub all_ends : length ends ≡ n
  pub each : (p : ℕ) (pass : PassView) (given : List ℕ) (end : RunEnd) → slice_get passes p ≡ Some pass → slice_get outputs p ≡ Some given
      → slice_get ends p ≡ Some end → IsWork t c p turns outs pass given end

-- what is run before any worker has started: each process has its job, and there is room for what workers come back with
pub record CanStart {G : Type 0} (t : TableView) (c : StepCode) (turns outs : ℕ) (jobs : Vec (Job G) Global) (empty : Gathered) : Type 0 where
  pub fits : IsFor t c
  pub ready : AreReady t c turns outs (vec_items jobs)
  pub none : Gathers t c turns outs 0 (vec_items empty.passes) (map vec_items (vec_items empty.outputs)) (vec_items empty.ends)
  pub room : (vec_len jobs ≤ vec_capacity empty.passes) × (vec_len jobs ≤ vec_capacity empty.outputs) × (vec_len jobs ≤ vec_capacity empty.ends)
