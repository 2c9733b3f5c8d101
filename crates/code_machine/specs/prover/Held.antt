-- The process that a `Proc` holds.
use Rattle.std.specs.Prelude.{◌≡◌, ◌<◌, ◌≤◌, ℕ, List, length, reverse}
use Rattle.std.specs.Bool.{OnTrue}
use Rattle.std.specs.Vec.{vec_capacity}
use Rattle.code_core.specs.declared.instr.Instr.{Instr}
use Rattle.code_core.specs.declared.instr.Instr.TheVariants as I
use Rattle.code_core.specs.Instructions.{StepCode, pops, left, goes_on}
use Rattle.code_machine.specs.declared.stack.Stack.{Stack}
use Rattle.code_machine.specs.declared.proc.Proc.TheInside.{Inside}
use Rattle.code_machine.specs.Machine.{CodeProcess, CodeStep, does}
use Rattle.code_machine.specs.Process.{OneProcess}

-- the top first
abbrev pub on_stack : Stack → List ℕ
on_stack s = reverse s.values.items

abbrev pub process_of : Inside → CodeProcess
process_of q = record {
  place = q.place;
  stack = on_stack q.stack;
  variables = q.variables.items;
  scans = q.scans.items;
  scratch = q.scratch;
  beside = q.beside;
  status = q.status;
}

abbrev pub one_of : Inside → OneProcess
one_of q = record { me = q.me; room = vec_capacity q.stack.values; process = process_of q }

-- what an instruction does
abbrev pub does_of : StepCode → OneProcess → Instr → CodeStep
does_of code one i = does one.process code.sizes.processes one.me i

-- the process is as told, and has the room that it had
pub record Becomes (old : OneProcess) (q : CodeProcess) (new : OneProcess) : Type 0 where
  pub me : new.me ≡ old.me
  pub room : new.room ≡ old.room
  pub place : new.process.place ≡ q.place
  pub stack : new.process.stack ≡ q.stack
  pub variables : new.process.variables ≡ q.variables
  pub scans : new.process.scans ≡ q.scans
  pub scratch : new.process.scratch ≡ q.scratch
  pub beside : new.process.beside ≡ q.beside
  pub status : new.process.status ≡ q.status

-- there are the slots of its own that the instruction names
abbrev pub HasSlots : CodeProcess → Instr → Type 0
HasSlots q (I.Load x) = x < length q.variables
HasSlots q (I.Store x) = x < length q.variables
HasSlots q (I.Get r x) = x < length q.variables
HasSlots q (I.Scan s) = s < length q.scans
HasSlots q (I.Copy s t) = (s < length q.scans) × (t < length q.scans)
HasSlots q (I.Older s x) = (s < length q.scans) × (x < length q.variables)
HasSlots q (I.Held s x) = (s < length q.scans) × (x < length q.variables)
HasSlots q _ = Unit {0}

-- The instruction finds its operands, room for what it leaves and, where it goes on, a place to go to.
pub record Finds (one : OneProcess) (i : Instr) : Type 0 where
  pub operands : pops i ≤ length one.process.stack
  pub room : OnTrue (goes_on i) (left i (length one.process.stack) ≤ one.room)
  pub more : OnTrue (goes_on i) (one.process.place < 65535)
  pub slots : HasSlots one.process i
