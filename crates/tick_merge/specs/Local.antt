-- One process of a code by itself, if the answers to all that it asks for are given.
use Rattle.std.specs.Prelude.{◌≡◌, ℕ, zero, suc, List, [], ◌∷◌, ◌++◌, Option, Some, None}
use Rattle.base.specs.declared.status.Status.TheVariants.{Running}
use Rattle.base.specs.declared.event.Act.{Act}
use Rattle.base.specs.declared.event.Act.TheVariants as A
use Rattle.base.specs.declared.event.Event.{Event}
use Rattle.base.specs.Observables.{told}
use Rattle.word_core.specs.Packed.{AreLabels, word}
use Rattle.word_core.specs.declared.history.Shared.{Shared}
use Rattle.word_core.specs.declared.history.SharedAct.{SharedAct}
use Rattle.word_core.specs.declared.history.SharedAct.TheVariants.{Load, Won, Lost, Read, Write, Clear}
use Rattle.code_core.specs.Instructions.{StepCode}
use Rattle.code_machine.specs.declared.ask.Ask.{Ask}
use Rattle.code_machine.specs.declared.ask.Ask.TheVariants as Q
use Rattle.code_machine.specs.declared.ask.Reply.{Reply}
use Rattle.code_machine.specs.declared.ask.Reply.TheVariants as R
use Rattle.code_machine.specs.Machine.{CodeProcess, Moved, CodeStep, alone, asks, did, start_process}

-- How far a process is, its events, and the steps that it made on what all processes share.
pub record Local : Type 0 where
  pub process : CodeProcess
  pub events : List Event
  pub steps : List Shared

-- before its first instruction
abbrev pub local_start : StepCode → Local
local_start c = record { process = start_process c.sizes; events = []; steps = [] }

-- What a process asked for and what it was told, as an act on what is shared; none where it was told
-- of something else. A clear is told nothing of the word that it found.
abbrev pub act_of : ℕ → Ask → Reply → Option SharedAct
act_of found Q.LoadWord (R.Word labels) = Some (Load (word labels))
act_of found Q.Scan (R.Word labels) = Some (Load (word labels))
act_of found (Q.Exchange old new) R.Won = Some (Won (word old) (word new))
act_of found (Q.Exchange old new) (R.Lost other) = Some (Lost (word old) (word other))
act_of found (Q.Get r i) (R.Value v) = Some (Read r i v)
act_of found (Q.Put r v) R.Written = Some (Write r v)
act_of found Q.Clear R.Cleared = Some (Clear found)
act_of found _ _ = None

-- the labels that a reply tells are labels of `n` processes
abbrev pub TellsLabels : ℕ → Reply → Type 0
TellsLabels n (R.Word labels) = AreLabels n labels
TellsLabels n (R.Lost found) = AreLabels n found
TellsLabels n _ = Unit {0}

-- process `p` after an instruction that it makes alone
abbrev pub moved_alone : ℕ → Local → Moved → Local
moved_alone p l m = record { process = m.process; events = told p m.act l.events; steps = l.steps }

-- and after one with which it acts on what is shared
abbrev pub moved_with : ℕ → Local → SharedAct → Moved → Local
moved_with p l act m = record {
  process = m.process;
  events = told p m.act l.events;
  steps = l.steps ++ record { process = p; act = act } ∷ [];
}

-- it asks, and goes on by some reply to what it asked for
pub record GoesOnBy (n p : ℕ) (l : Local) (ask : Ask) (answered : Reply → Moved) (next : Local) : Type 0 where
  pub reply : Reply
  pub act : SharedAct
  pub found : ℕ
  pub labels : TellsLabels n reply
  pub fits : act_of found ask reply ≡ Some act
  pub makes : next ≡ moved_with p l act (answered reply)

abbrev pub Makes : ℕ → ℕ → Local → CodeStep → Local → Type 0
Makes n p l (alone m) next = next ≡ moved_alone p l m
Makes n p l (asks ask answered) next = GoesOnBy n p l ask answered next

-- Process `p` of the code goes on, and makes one instruction.
pub record LocalStep (c : StepCode) (p : ℕ) (l next : Local) : Type 0 where
  pub running : l.process.status ≡ Running
  pub makes : Makes c.sizes.processes p l (did c.sizes.processes p c.instructions l.process) next

-- It has made so many instructions, from its start on.
abbrev pub IsLocalRun : StepCode → ℕ → ℕ → Local → Type 0
IsLocalRun c p zero l = l ≡ local_start c
IsLocalRun c p (suc count) l = (before : Local) × IsLocalRun c p count before × LocalStep c p before l

-- an act with the values that were given out after it
abbrev pub output_of : Act → List ℕ → List ℕ
output_of (A.Out v) outputs = v ∷ outputs
output_of _ outputs = outputs

-- the values that were given out, in their order
abbrev pub outputs_of : List Event → List ℕ
outputs_of [] = []
outputs_of (event ∷ events) = output_of event.act (outputs_of events)
