-- A step code as it runs on bounded labels: the state, what one step does, and the run.
use Rattle.std.specs.Prelude.{ℕ, ◌+◌, ◌==◌, nat_lt, Bool, true, false, ◌&&◌, if◌then◌else◌, List, [], ◌∷◌, map, drop, replicate, slice_get, slice_set, slice_index, slice_index_or, Option, Some, None, option_and_then, Result, Ok, Err}
use Rattle.label_core.specs.Labels.{same_label}
use Rattle.word_core.specs.Stamps.{Labels, start_labels, label_at, is_present, stamped, cleared}
use Rattle.word_core.specs.Order.{older_label, label_ranks}
use Rattle.base.specs.declared.status.Trap.{Trap}
use Rattle.base.specs.declared.status.Trap.TheVariants as T
use Rattle.base.specs.declared.status.Status.{Status}
use Rattle.base.specs.declared.status.Status.TheVariants.{Running, Ended, Trapped}
use Rattle.base.specs.declared.event.Act.{Act}
use Rattle.base.specs.declared.event.Act.TheVariants as A
use Rattle.base.specs.declared.event.Event.{Event}
use Rattle.base.specs.Operators.{truth_value, operation}
use Rattle.base.specs.RegisterRows.{start_rows, register_at, register_set}
use Rattle.base.specs.Observables.{Observables, told, told_ranks}
use Rattle.code_core.specs.declared.instr.Instr.{Instr}
use Rattle.code_core.specs.declared.instr.Instr.TheVariants as I
use Rattle.code_core.specs.Instructions.{CodeSizes, StepCode}
use Rattle.code_machine.specs.declared.ask.Ask.{Ask}
use Rattle.code_machine.specs.declared.ask.Ask.TheVariants as Q
use Rattle.code_machine.specs.declared.ask.Reply.{Reply}
use Rattle.code_machine.specs.declared.ask.Reply.TheVariants as R

-- A process: the place of its next instruction, its stack with the top first, its variables, its
-- scans, its scratch and what stands beside it. Each scan, the scratch and what stands beside it
-- have the labels of all processes.
pub record CodeProcess : Type 0 where
  pub place : ℕ
  pub stack : List ℕ
  pub variables : List ℕ
  pub scans : List Labels
  pub scratch : Labels
  pub beside : Labels
  pub status : Status

-- All processes share the labels and the register rows. A row has one number for each process.
pub record CodeState : Type 0 where
  pub labels : Labels
  pub rows : List (List ℕ)
  pub processes : List CodeProcess
  pub events : List Event

-- a code, and its state
pub record CodeRun : Type 0 where
  pub code : StepCode
  pub state : CodeState

-- the process after a step, and what the step lets others see
pub record Moved : Type 0 where
  pub process : CodeProcess
  pub act : Option Act

-- What one step does: it is done alone, or it asks for something shared, and the answer decides.
pub data CodeStep : Type 0 where
  alone : Moved → CodeStep
  asks : Ask → (Reply → Moved) → CodeStep

-- A process that runs.
module _ (q : CodeProcess) where
  abbrev pub goes : ℕ → List ℕ → Option Act → Moved
  goes place stack act = record { process = record q { place = place; stack = stack }; act = act }

  -- to the next place
  abbrev pub goes_on : List ℕ → Option Act → Moved
  goes_on stack act = goes (q.place + 1) stack act

  abbrev pub stops : Status → Act → Moved
  stops status act = record { process = record q { status = status }; act = Some act }

  -- a trap is all that its step does
  abbrev pub traps : Trap → Moved
  traps t = stops (Trapped t) (A.Trap t)

  -- an answer to something else changes nothing
  abbrev pub stays : Moved
  stays = record { process = q; act = None }

  abbrev pub results : List ℕ → Result ℕ Trap → Moved
  results below (Ok v) = goes_on (v ∷ below) None
  results below (Err t) = traps t

  -- a value into a variable
  abbrev pub sets : ℕ → ℕ → List ℕ → Option Act → Moved
  sets x v stack act = record { process = record q { place = q.place + 1; stack = stack; variables = slice_set q.variables x v }; act = act }

  -- the labels of `n` processes that a scan holds
  abbrev pub scan_at : ℕ → ℕ → Labels
  scan_at n s = slice_index_or q.scans s (start_labels n)

  -- what a stamp makes of the scratch stands beside it
  abbrev pub stamps : ℕ → Moved
  stamps p = record { process = record q { place = q.place + 1; beside = stamped p q.scratch }; act = None }

  -- labels into a scan
  abbrev pub keeps : ℕ → Labels → Option Act → Moved
  keeps s labels act = record { process = record q { place = q.place + 1; scans = slice_set q.scans s labels }; act = act }

  abbrev pub loads : Reply → Moved
  loads (R.Word labels) = record { process = record q { place = q.place + 1; scratch = labels }; act = None }
  loads _ = stays

  -- a stamp is made where its exchange is won; one that was lost begins again
  abbrev pub exchanges : ℕ → Reply → Moved
  exchanges back R.Won = goes_on q.stack (Some A.Stamp)
  exchanges back (R.Lost found) = goes back q.stack None
  exchanges back _ = stays

  abbrev pub scans : ℕ → ℕ → Reply → Moved
  scans n s (R.Word labels) = keeps s labels (Some (A.Scan (told_ranks n (label_ranks labels))))
  scans n s _ = stays

  abbrev pub receives : ℕ → ℕ → ℕ → Reply → Moved
  receives r i x (R.Value v) = sets x v (drop 1 q.stack) (Some (A.Get r i v))
  receives r i x _ = stays

  abbrev pub gets : ℕ → ℕ → ℕ → ℕ → CodeStep
  gets n r i x = if nat_lt i n then asks (Q.Get r i) (receives r i x) else alone (traps T.Index)

  abbrev pub writes : ℕ → ℕ → Reply → Moved
  writes r v R.Written = goes_on (drop 1 q.stack) (Some (A.Put r v))
  writes r v _ = stays

  abbrev pub compares : ℕ → ℕ → ℕ → ℕ → ℕ → Moved
  compares n s i j x =
      if nat_lt i n && nat_lt j n
      then sets x (truth_value (older_label (scan_at n s) i j)) (drop 2 q.stack) (Some (A.Older i j (truth_value (older_label (scan_at n s) i j))))
      else traps T.Index

  -- the own ticket is given up
  abbrev pub clears : Reply → Moved
  clears R.Cleared = goes_on q.stack (Some A.Clear)
  clears _ = stays

  abbrev pub held_in : ℕ → ℕ → ℕ → ℕ
  held_in n s i = truth_value (is_present (label_at (scan_at n s) i))

  -- whether process `i` is present in a scan
  abbrev pub tells_held : ℕ → ℕ → ℕ → ℕ → Moved
  tells_held n s i x =
      if nat_lt i n then sets x (held_in n s i) (drop 1 q.stack) (Some (A.Held i (held_in n s i))) else traps T.Index

  -- What this instruction does, where the process is process `p` of `n`.
  abbrev pub does : ℕ → ℕ → Instr → CodeStep
  does n p (I.Push v) = alone (goes_on (v ∷ q.stack) None)
  does n p (I.Load x) = alone (goes_on (slice_index q.variables x ∷ q.stack) None)
  does n p I.Me = alone (goes_on (p ∷ q.stack) None)
  does n p I.Count = alone (goes_on (n ∷ q.stack) None)
  does n p (I.Bin op) = alone (results (drop 2 q.stack) (operation op (slice_index q.stack 1) (slice_index q.stack 0)))
  does n p (I.Store x) = alone (sets x (slice_index q.stack 0) (drop 1 q.stack) None)
  does n p (I.Get r x) = gets n r (slice_index q.stack 0) x
  does n p (I.Put r) = asks (Q.Put r (slice_index q.stack 0)) (writes r (slice_index q.stack 0))
  does n p I.LoadWord = asks Q.LoadWord loads
  does n p I.Next = alone (stamps p)
  does n p (I.Exchange l) = asks (Q.Exchange q.scratch q.beside) (exchanges l)
  does n p (I.Scan s) = asks Q.Scan (scans n s)
  does n p (I.Copy s t) = alone (keeps t (scan_at n s) None)
  does n p (I.Older s x) = alone (compares n s (slice_index q.stack 1) (slice_index q.stack 0) x)
  does n p I.Out = alone (goes_on (drop 1 q.stack) (Some (A.Out (slice_index q.stack 0))))
  does n p (I.JumpZero l) = alone (goes (if slice_index q.stack 0 == 0 then l else q.place + 1) (drop 1 q.stack) None)
  does n p (I.Jump l) = alone (goes l q.stack None)
  does n p I.Halt = alone (stops Ended A.End)
  does n p I.Clear = asks Q.Clear clears
  does n p (I.Held s x) = alone (tells_held n s (slice_index q.stack 0) x)

  -- what the instruction at its place does
  abbrev pub does_at : ℕ → ℕ → Option Instr → CodeStep
  does_at n p None = alone stays
  does_at n p (Some i) = does n p i

-- one step of process `p` of `n` with this code
abbrev pub did : ℕ → ℕ → List Instr → CodeProcess → CodeStep
did n p code q = does_at q n p (slice_get code q.place)

-- whether a process is absent in both, or has the same label
abbrev pub same_held : Option (List ℕ) → Option (List ℕ) → Bool
same_held None None = true
same_held None (Some other) = false
same_held (Some label) None = false
same_held (Some label) (Some other) = same_label label other

-- whether these are the same labels
abbrev pub same_labels : Labels → Labels → Bool
same_labels [] [] = true
same_labels [] (other ∷ others) = false
same_labels (label ∷ labels) [] = false
same_labels (label ∷ labels) (other ∷ others) = same_held label other && same_labels labels others

-- What is shared answers what is asked.
abbrev pub reply_in : Labels → List (List ℕ) → Ask → Reply
reply_in labels rows Q.LoadWord = R.Word labels
reply_in labels rows Q.Scan = R.Word labels
reply_in labels rows (Q.Exchange old new) = if same_labels labels old then R.Won else R.Lost labels
reply_in labels rows (Q.Get r i) = R.Value (register_at rows r i)
reply_in labels rows (Q.Put r v) = R.Written
reply_in labels rows Q.Clear = R.Cleared

-- an exchange changes the labels, and only where it finds the old ones, and a clear of process `p`
abbrev pub labels_by : ℕ → Ask → Labels → Labels
labels_by p (Q.Exchange old new) labels = if same_labels labels old then new else labels
labels_by p Q.Clear labels = cleared p labels
labels_by p _ labels = labels

-- only process `p` writes its own registers
abbrev pub rows_by : ℕ → Ask → List (List ℕ) → List (List ℕ)
rows_by p (Q.Put r v) rows = register_set rows r p v
rows_by p _ rows = rows

-- what the step made, once what is shared has answered
abbrev pub made : Labels → List (List ℕ) → CodeStep → Moved
made labels rows (alone m) = m
made labels rows (asks ask answered) = answered (reply_in labels rows ask)

-- the labels and the rows that it leaves
abbrev pub labels_left : ℕ → CodeStep → Labels → Labels
labels_left p (alone m) labels = labels
labels_left p (asks ask answered) labels = labels_by p ask labels

abbrev pub rows_left : ℕ → CodeStep → List (List ℕ) → List (List ℕ)
rows_left p (alone m) rows = rows
rows_left p (asks ask answered) rows = rows_by p ask rows

abbrev pub state_after : ℕ → CodeState → CodeStep → CodeState
state_after p s d = record {
  labels = labels_left p d s.labels;
  rows = rows_left p d s.rows;
  processes = slice_set s.processes p (made s.labels s.rows d).process;
  events = told p (made s.labels s.rows d).act s.events;
}

-- a stopped process steps to the same state
abbrev pub step_as : ℕ → List Instr → ℕ → CodeState → CodeProcess → Status → CodeState
step_as n code p s q Running = state_after p s (did n p code q)
step_as n code p s q _ = s

abbrev pub step_of : ℕ → List Instr → ℕ → CodeState → Option CodeProcess → CodeState
step_of n code p s (Some q) = step_as n code p s q q.status
step_of n code p s None = s

-- one step of process `p` of `n`
abbrev pub code_step : ℕ → List Instr → ℕ → CodeState → CodeState
code_step n code p s = step_of n code p s (slice_get s.processes p)

-- a process, where it runs
abbrev pub running_as : CodeProcess → Status → Option CodeProcess
running_as q Running = Some q
running_as q _ = None

abbrev pub running_at : ℕ → CodeState → Option CodeProcess
running_at p s = option_and_then (λ q. running_as q q.status) (slice_get s.processes p)

-- the instruction that process `p` makes next
abbrev pub next_instruction : List Instr → ℕ → CodeState → Option Instr
next_instruction code p s = option_and_then (λ q. slice_get code q.place) (running_at p s)

-- what its next step lets others see
abbrev pub next_act : ℕ → List Instr → ℕ → CodeState → Option Act
next_act n code p s = option_and_then (λ q. (made s.labels s.rows (did n p code q)).act) (running_at p s)

-- the processes of the list step in its order
abbrev pub code_run : ℕ → List Instr → List ℕ → CodeState → CodeState
code_run n code [] s = s
code_run n code (p ∷ schedule) s = code_run n code schedule (code_step n code p s)

abbrev pub start_process : CodeSizes → CodeProcess
start_process sizes = record {
  place = 0;
  stack = [];
  variables = replicate sizes.variables 0;
  scans = replicate sizes.scans (start_labels sizes.processes);
  scratch = start_labels sizes.processes;
  beside = start_labels sizes.processes;
  status = Running;
}

abbrev pub code_start : CodeSizes → CodeState
code_start sizes = record {
  labels = start_labels sizes.processes;
  rows = start_rows sizes.rows sizes.processes;
  processes = replicate sizes.processes (start_process sizes);
  events = [];
}

-- the code under this schedule
abbrev pub run_of : CodeSizes → List Instr → List ℕ → CodeState
run_of sizes code schedule = code_run sizes.processes code schedule (code_start sizes)

abbrev pub statuses_of : CodeState → List Status
statuses_of s = map (λ q. q.status) s.processes

abbrev pub places_of : CodeState → List ℕ
places_of s = map (λ q. q.place) s.processes

abbrev pub observables : CodeState → Observables
observables s = record { events = s.events; rows = s.rows; statuses = statuses_of s }
