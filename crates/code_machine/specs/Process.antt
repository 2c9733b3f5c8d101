-- One process by itself: what its next instruction does, and how it goes on by an answer.
use Rattle.std.specs.Prelude.{ℕ, ◌<◌, ◌≤◌, Bool, true, false, Option, Some, None}
use Rattle.base.specs.declared.status.Status.{Status}
use Rattle.base.specs.declared.status.Status.TheVariants.{Running}
use Rattle.base.specs.declared.event.Act.{Act}
use Rattle.base.specs.declared.event.Event.{Event}
use Rattle.code_core.specs.declared.instr.Instr.{Instr}
use Rattle.code_core.specs.declared.instr.Instr.TheVariants as I
use Rattle.code_core.specs.Instructions.{CodeSizes, StepCode}
use Rattle.code_core.specs.Heights.{greatest_height}
use Rattle.code_core.specs.Verified.{IsVerified}
use Rattle.code_machine.specs.declared.ask.Reply.{Reply}
use Rattle.code_machine.specs.declared.ask.Advance.{Advance}
use Rattle.code_machine.specs.declared.ask.Advance.TheVariants as V
use Rattle.code_machine.specs.Machine.{CodeProcess, Moved, CodeStep, alone, asks, stays, did}
use Rattle.code_machine.specs.Safety.{IsSafe, IsLawful}

-- Which process it is, for how many values its stack has room, and the process.
pub record OneProcess : Type 0 where
  pub me : ℕ
  pub room : ℕ
  pub process : CodeProcess

-- it runs this code
pub record IsOf (code : StepCode) (one : OneProcess) : Type 0 where
  pub verified : IsVerified code.sizes code.instructions
  pub me : one.me < code.sizes.processes
  pub room : greatest_height code.instructions ≤ one.room
  pub safe : IsSafe code.sizes code.instructions one.me one.process

-- what its next instruction does
abbrev pub next_of : StepCode → OneProcess → CodeStep
next_of code one = did code.sizes.processes one.me code.instructions one.process

abbrev pub event_of : ℕ → Option Act → Option Event
event_of p None = None
event_of p (Some act) = Some (record { process = p; act = act })

abbrev pub shown : Option Event → Advance
shown None = V.Silent
shown (Some event) = V.Did event

abbrev pub advance_of : ℕ → CodeStep → Advance
advance_of p (alone m) = shown (event_of p m.act)
advance_of p (asks ask answered) = V.Ask ask

-- while it asks, the process is as it was
abbrev pub after_advance : CodeProcess → CodeStep → CodeProcess
after_advance q (alone m) = m.process
after_advance q (asks ask answered) = q

-- what the reply makes of it, where it asks
abbrev pub answered_by : CodeProcess → CodeStep → Reply → Moved
answered_by q (alone m) reply = stays q
answered_by q (asks ask answered) reply = answered reply

-- a process that has stopped does nothing
abbrev pub advance_as : Status → ℕ → CodeStep → Advance
advance_as Running p d = advance_of p d
advance_as _ p d = V.Stopped

abbrev pub after_advance_as : Status → CodeProcess → CodeStep → CodeProcess
after_advance_as Running q d = after_advance q d
after_advance_as _ q d = q

abbrev pub answered_as : Status → CodeProcess → CodeStep → Reply → Moved
answered_as Running q d reply = answered_by q d reply
answered_as _ q d reply = stays q

-- all that it asks for is lawful
abbrev pub AsksLawfully : CodeSizes → ℕ → Advance → Type 0
AsksLawfully sizes p (V.Ask ask) = IsLawful sizes p ask
AsksLawfully sizes p _ = Unit {0}

abbrev pub is_out : Option Instr → Bool
is_out (Some I.Out) = true
is_out _ = false

-- whether it runs, and its next instruction gives out a value
abbrev pub gives_out : Status → Option Instr → Bool
gives_out Running next = is_out next
gives_out _ next = false
