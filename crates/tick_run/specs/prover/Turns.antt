-- One turn of a worker: one instruction of its process, by itself.
use Rattle.std.specs.Prelude.{◌≡◌, ℕ, ◌+◌, true, List, [], ◌∷◌, ◌++◌, slice_get, Some}
use Rattle.base.specs.declared.status.Status.{Status}
use Rattle.base.specs.declared.status.Status.TheVariants as S
use Rattle.base.specs.declared.event.Act.{Act}
use Rattle.base.specs.declared.event.Act.TheVariants as A
use Rattle.base.specs.declared.run_outcome.RunEnd.{RunEnd}
use Rattle.base.specs.declared.run_outcome.RunEnd.TheVariants as E
use Rattle.word_core.specs.declared.history.Shared.{Shared}
use Rattle.word_core.specs.declared.history.SharedAct.{SharedAct}
use Rattle.code_core.specs.Instructions.{StepCode}
use Rattle.code_machine.specs.declared.ask.Ask.{Ask}
use Rattle.code_machine.specs.declared.ask.Reply.{Reply}
use Rattle.code_machine.specs.Machine.{CodeProcess}
use Rattle.code_machine.specs.Process.{gives_out}
use Rattle.stamp_table.specs.Passes.{TableView, mine, by}
use Rattle.tick_merge.specs.Local.{Local, IsLocalRun, outputs_of, act_of, TellsLabels}
use Rattle.tick_run.specs.declared.worker.Turn.{Turn}
use Rattle.tick_run.specs.declared.worker.Turn.TheVariants as T

-- the table is one for this code
pub record IsFor (t : TableView) (c : StepCode) : Type 0 where
  pub processes : t.n ≡ c.sizes.processes
  pub rows : t.rows ≡ c.sizes.rows

-- After `count` instructions process `p` stands so by itself, has made these steps on what is shared and
-- has given out these values.
pub record IsAt (c : StepCode) (p count : ℕ) (q : CodeProcess) (steps : List Shared) (given : List ℕ) : Type 0 where
  pub local : Local
  pub is_local : IsLocalRun c p count local
  pub process : local.process ≡ q
  pub own : local.steps ≡ steps
  pub gave : given ≡ outputs_of local.events

-- what a turn made of a process and its steps
abbrev pub IsTurn : Turn → StepCode → ℕ → CodeProcess → List Shared → CodeProcess → List Shared → Type 0
IsTurn T.Went c p q steps next further =
    (count : ℕ) (given : List ℕ) → IsAt c p count q steps given → IsAt c p (count + 1) next further given
IsTurn (T.Gave v) c p q steps next further =
    (gives_out q.status (slice_get c.instructions q.place) ≡ true)
    × ((count : ℕ) (given : List ℕ) → IsAt c p count q steps given → IsAt c p (count + 1) next further (given ++ v ∷ []))

-- Process `p` made the step that it asked for, and has this reply.
pub record IsServed (n p : ℕ) (ask : Ask) (reply : Reply) (before after : List Shared) : Type 0 where
  pub act : SharedAct
  pub found : ℕ
  pub fits : act_of found ask reply ≡ Some act
  pub labels : TellsLabels n reply
  pub own : mine p after ≡ mine p before ++ by p act ∷ []

-- what an event of a turn gives out
abbrev pub turn_by : Act → Turn
turn_by (A.Out v) = T.Gave v
turn_by _ = T.Went

-- how a process of this status ends where it makes no further instruction
abbrev pub end_by : Status → RunEnd
end_by S.Running = E.TurnsSpent
end_by S.Ended = E.Ended
end_by (S.Trapped t) = E.Trapped t
