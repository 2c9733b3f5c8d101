-- What a run of a code does to what all processes share, and how many instructions its schedule has for each
-- process.
use Rattle.std.specs.Prelude.{◌≡◌, ℕ, ◌==◌, if◌then◌else◌, List, [], ◌∷◌, ◌++◌, count_by, slice_get, Option, Some, None}
use Rattle.std.specs.List.{filter}
use Rattle.base.specs.declared.status.Status.{Status}
use Rattle.base.specs.declared.status.Status.TheVariants.{Running}
use Rattle.base.specs.declared.event.Event.{Event}
use Rattle.base.specs.RegisterRows.{register_at}
use Rattle.word_core.specs.Packed.{word}
use Rattle.word_core.specs.History.{Memory}
use Rattle.word_core.specs.declared.history.Shared.{Shared}
use Rattle.word_core.specs.declared.history.SharedAct.{SharedAct}
use Rattle.word_core.specs.declared.history.SharedAct.TheVariants.{Load, Won, Lost, Read, Write, Clear}
use Rattle.code_core.specs.declared.instr.Instr.{Instr}
use Rattle.code_core.specs.Instructions.{StepCode}
use Rattle.code_machine.specs.declared.ask.Ask.{Ask}
use Rattle.code_machine.specs.declared.ask.Ask.TheVariants as Q
use Rattle.code_machine.specs.Machine.{CodeProcess, CodeState, CodeStep, alone, asks, did, same_labels, code_step, code_start, run_of}
use Rattle.stamp_table.specs.Passes.{by}

-- the code under a schedule
abbrev pub run_under : StepCode → List ℕ → CodeState
run_under c schedule = run_of c.sizes c.instructions schedule

-- what all processes share
abbrev pub memory_in : CodeState → Memory
memory_in s = record { labels = s.labels; rows = s.rows }

-- what becomes of an ask there: an exchange is won where it finds the labels that it looks for
abbrev pub act_by : Memory → Ask → SharedAct
act_by m Q.LoadWord = Load (word m.labels)
act_by m Q.Scan = Load (word m.labels)
act_by m (Q.Exchange old new) = if same_labels m.labels old then Won (word old) (word new) else Lost (word old) (word m.labels)
act_by m (Q.Get r i) = Read r i (register_at m.rows r i)
act_by m (Q.Put r v) = Write r v
act_by m Q.Clear = Clear (word m.labels)

-- the step on what is shared that an instruction makes, if it makes one
abbrev pub shared_step : ℕ → Memory → CodeStep → List Shared
shared_step p m (alone moved) = []
shared_step p m (asks ask answered) = by p (act_by m ask) ∷ []

abbrev pub shared_as : ℕ → List Instr → ℕ → CodeState → CodeProcess → Status → List Shared
shared_as n code p s q Running = shared_step p (memory_in s) (did n p code q)
shared_as n code p s q _ = []

abbrev pub shared_by : ℕ → List Instr → ℕ → CodeState → Option CodeProcess → List Shared
shared_by n code p s (Some q) = shared_as n code p s q q.status
shared_by n code p s None = []

abbrev pub shared_from : ℕ → List Instr → List ℕ → CodeState → List Shared
shared_from n code [] s = []
shared_from n code (p ∷ schedule) s =
    shared_by n code p s (slice_get s.processes p) ++ shared_from n code schedule (code_step n code p s)

-- the steps on what is shared of the code under a schedule
abbrev pub shared_of : StepCode → List ℕ → List Shared
shared_of c schedule = shared_from c.sizes.processes c.instructions schedule (code_start c.sizes)

-- process `p` goes on
pub record Runs (p : ℕ) (s : CodeState) : Type 0 where
  pub process : CodeProcess
  pub there : slice_get s.processes p ≡ Some process
  pub running : process.status ≡ Running

abbrev pub AllRunFrom : ℕ → List Instr → List ℕ → CodeState → Type 0
AllRunFrom n code [] s = Unit {0}
AllRunFrom n code (p ∷ schedule) s = Runs p s × AllRunFrom n code schedule (code_step n code p s)

-- no process is scheduled after it stopped
abbrev pub AllRun : StepCode → List ℕ → Type 0
AllRun c schedule = AllRunFrom c.sizes.processes c.instructions schedule (code_start c.sizes)

-- how many instructions a schedule has for process `p`
abbrev pub occurs : ℕ → List ℕ → ℕ
occurs p schedule = count_by (λ k. k == p) schedule

-- the events of process `p`, in their order
abbrev pub events_by : ℕ → List Event → List Event
events_by p events = filter (λ (e : Event). e.process == p) events
