-- The schedule that is made of a history and a number of instructions for each process. For each step of the
-- history its process first makes the instructions that it makes alone, then the step. After the history each
-- process makes the rest of its instructions.
use Rattle.std.specs.Prelude.{◌≡◌, ℕ, zero, suc, ◌-◌, ◌<◌, List, [], ◌∷◌, ◌++◌, replicate, slice_get, slice_index, Option, Some, None}
use Rattle.base.specs.declared.status.Status.{Status}
use Rattle.base.specs.declared.status.Status.TheVariants.{Running}
use Rattle.word_core.specs.History.{memory_of}
use Rattle.word_core.specs.declared.history.Shared.{Shared}
use Rattle.code_core.specs.declared.instr.Instr.{Instr}
use Rattle.code_core.specs.Instructions.{StepCode}
use Rattle.code_machine.specs.Machine.{CodeProcess, CodeStep, alone, did}
use Rattle.stamp_table.specs.Passes.{mine}
use Rattle.tick_merge.specs.Local.{Local, IsLocalRun}
use Rattle.tick_merge.specs.Ran.{run_under, memory_in, shared_of, AllRun, occurs, events_by}

abbrev pub one_further : Status → CodeStep → (CodeProcess → ℕ) → ℕ
one_further Running (alone moved) later = suc (later moved.process)
one_further _ d later = 0

-- how many instructions process `p` makes alone before it stops or asks for something, at most `most`
abbrev pub alone_for : ℕ → List Instr → ℕ → ℕ → CodeProcess → ℕ
alone_for n code p zero q = 0
alone_for n code p (suc most) q = one_further q.status (did n p code q) (alone_for n code p most)

abbrev pub alone_of : StepCode → ℕ → ℕ → Option CodeProcess → ℕ
alone_of c p most (Some q) = alone_for c.sizes.processes c.instructions p most q
alone_of c p most None = 0

-- how many instructions are left to process `p`
abbrev pub turns_left : List ℕ → List ℕ → ℕ → ℕ
turns_left turns schedule p = slice_index turns p - occurs p schedule

-- a process is led to its next step, and makes it
abbrev pub led : StepCode → List ℕ → List ℕ → ℕ → List ℕ
led c turns schedule p =
    schedule ++ (replicate (alone_of c p (turns_left turns schedule p) (slice_get (run_under c schedule).processes p)) p ++ p ∷ [])

-- through all steps of a history
abbrev pub through : StepCode → List ℕ → List ℕ → List Shared → List ℕ
through c turns schedule [] = schedule
through c turns schedule (step ∷ history) = through c turns (led c turns schedule step.process) history

-- the first processes make what is left to them, one after the other
abbrev pub spent : List ℕ → List ℕ → ℕ → List ℕ
spent turns schedule zero = schedule
spent turns schedule (suc p) = spent turns schedule p ++ replicate (turns_left turns schedule p) p

abbrev pub merged : StepCode → List ℕ → List Shared → List ℕ
merged c turns history = spent turns (through c turns [] history) c.sizes.processes

-- Under the schedule process `p` stands where it stands by itself after as many instructions, and has
-- the same events.
pub record StandsAs (c : StepCode) (schedule : List ℕ) (p : ℕ) (l : Local) : Type 0 where
  pub process : slice_get (run_under c schedule).processes p ≡ Some l.process
  pub events : events_by p (run_under c schedule).events ≡ l.events

-- The history is the shared part of one run of the code: in it each process makes its number of
-- instructions and none after it stopped, and does what it does by itself where it makes its own steps
-- of the history.
pub record IsMerged (c : StepCode) (turns : List ℕ) (history : List Shared) (schedule : List ℕ) : Type 0 where
  pub run : AllRun c schedule
  pub turns_made : (p : ℕ) → p < c.sizes.processes → occurs p schedule ≡ slice_index turns p
  pub shared : shared_of c schedule ≡ history
  pub memory : memory_in (run_under c schedule) ≡ memory_of c.sizes.processes c.sizes.rows history
  pub each : (p : ℕ) (l : Local) → p < c.sizes.processes → IsLocalRun c p (slice_index turns p) l → l.steps ≡ mine p history
      → StandsAs c schedule p l
