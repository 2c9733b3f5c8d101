-- A step of one process, part by part.
use Rattle.std.specs.Prelude.{◌≡◌, ℕ, List, length, map, slice_get, Some}
use Rattle.base.specs.declared.status.Status.{Status}
use Rattle.base.specs.declared.status.Status.TheVariants.{Running}
use Rattle.base.specs.declared.event.Event.{Event}
use Rattle.base.specs.Observables.{told}
use Rattle.code_core.specs.Verified.{IsVerified}
use Rattle.word_core.specs.Stamps.{Labels}
use Rattle.code_core.specs.Instructions.{StepCode}
use Rattle.code_machine.specs.declared.machine.CodeMachine.TheInside.{Inside}
use Rattle.code_machine.specs.declared.memory.CodeMemory.{CodeMemory}
use Rattle.code_machine.specs.Machine.{CodeProcess, CodeState, Moved, CodeStep, stays, made, labels_left, rows_left, start_process}
use Rattle.code_machine.specs.Safety.{AreOrdered}
use Rattle.code_machine.specs.Process.{OneProcess, IsOf, next_of}

-- a process that has stopped makes nothing
abbrev pub moved_as : Status → CodeProcess → Labels → List (List ℕ) → CodeStep → Moved
moved_as Running q labels rows d = made labels rows d
moved_as _ q labels rows d = stays q

abbrev pub labels_as : Status → ℕ → CodeStep → Labels → Labels
labels_as Running p d labels = labels_left p d labels
labels_as _ p d labels = labels

abbrev pub rows_as : Status → ℕ → CodeStep → List (List ℕ) → List (List ℕ)
rows_as Running p d rows = rows_left p d rows
rows_as _ p d rows = rows

-- the process made its step, and with it what it does to what is shared
pub record Makes (code : StepCode) (p : ℕ) (old new : CodeMemory) (one one' : OneProcess) (events events' : List Event) : Type 0 where
  pub process : one'.process ≡ (moved_as one.process.status one.process old.labels old.registers (next_of code one)).process
  pub labels : new.labels ≡ labels_as one.process.status p (next_of code one) old.labels
  pub rows : new.registers ≡ rows_as one.process.status p (next_of code one) old.registers
  pub told_events : events' ≡ told p (moved_as one.process.status one.process old.labels old.registers (next_of code one)).act events

-- all is as it was
pub record Keeps (old new : CodeMemory) (one one' : OneProcess) (events events' : List Event) : Type 0 where
  pub process : one'.process ≡ one.process
  pub labels : new.labels ≡ old.labels
  pub rows : new.registers ≡ old.registers
  pub same_events : events' ≡ events

-- the code and the state of a machine
abbrev pub state_of : Inside → CodeState
state_of m = record {
  labels = m.shared.labels;
  rows = m.shared.registers;
  processes = map (λ one. one.process) m.processes.items;
  events = m.events.items;
}

-- each process is one of this code, and its number is its place
pub record IsSound (m : Inside) : Type 0 where
  pub verified : IsVerified m.code.now.sizes m.code.now.instructions
  pub labels : AreOrdered m.code.now.sizes.processes m.shared.labels
  pub each : (p : ℕ) (one : OneProcess) → slice_get m.processes.items p ≡ Some one → IsOf m.code.now one × (one.me ≡ p)

-- the first `k` processes of the code before their first step
pub record AreNew (code : StepCode) (k : ℕ) (processes : List OneProcess) : Type 0 where
  pub many : length processes ≡ k
  pub each : (p : ℕ) (one : OneProcess) → slice_get processes p ≡ Some one → IsOf code one × (one.me ≡ p) × (one.process ≡ start_process code.sizes)
