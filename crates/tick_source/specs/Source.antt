-- A ticket program as it runs on whole-number tickets: the state, what one step does, and the run.
use Rattle.std.specs.Prelude.{◌≡◌, ℕ, ◌==◌, nat_lt, if◌then◌else◌, List, [], ◌∷◌, length, map, replicate, slice_get, slice_set, slice_index_or, Option, Some, None, Result, Ok, Err, IsOk}
use Rattle.ticket_core.specs.Tickets.{start_tickets, stamp_ticket, clear_ticket, ticket_ranks, older_ticket, holds_ticket}
use Rattle.base.specs.Plain.{Statement, assign, get, put, stamp, clear, scan, copy, older, held, out, branch, repeat, Block, nil, cons, onto, WholeProgram}
use Rattle.base.specs.declared.status.Trap.{Trap}
use Rattle.base.specs.declared.status.Trap.TheVariants as T
use Rattle.base.specs.declared.status.Status.{Status}
use Rattle.base.specs.declared.status.Status.TheVariants.{Running, Ended, Trapped}
use Rattle.base.specs.declared.event.Act.{Act}
use Rattle.base.specs.declared.event.Act.TheVariants as A
use Rattle.base.specs.declared.event.Event.{Event}
use Rattle.base.specs.Operators.{truth_value}
use Rattle.base.specs.RegisterRows.{start_rows, register_at, register_set}
use Rattle.base.specs.Observables.{Observables, told, told_ranks}
use Rattle.tick_source.specs.Values.{value}

-- A process: its variables, its scans, each a whole ticket list, and the statements that remain.
pub record SourceProcess : Type 0 where
  pub variables : List ℕ
  pub scans : List (List ℕ)
  pub rest : Block ℕ
  pub status : Status

-- All processes share the tickets and the register rows. A row has one number for each process.
pub record SourceState : Type 0 where
  pub tickets : List ℕ
  pub rows : List (List ℕ)
  pub processes : List SourceProcess
  pub events : List Event

-- What one step of a process does.
pub record SourceStep : Type 0 where
  pub tickets : List ℕ
  pub rows : List (List ℕ)
  pub process : SourceProcess
  pub act : Option Act

-- the tickets that scan `s` holds
abbrev pub scan_at : ℕ → List (List ℕ) → ℕ → List ℕ
scan_at n scans s = slice_index_or scans s (start_tickets n)

-- Process `p` of `n` runs, where these are the tickets, the rows, its variables and its scans.
module _ (n p : ℕ) (tickets : List ℕ) (rows : List (List ℕ)) (variables : List ℕ) (scans : List (List ℕ)) where
  abbrev pub goes : List ℕ → List (List ℕ) → Block ℕ → Option Act → SourceStep
  goes variables' scans' rest act = record {
    tickets = tickets;
    rows = rows;
    process = record { variables = variables'; scans = scans'; rest = rest; status = Running };
    act = act;
  }

  abbrev pub stops : Block ℕ → Status → Act → SourceStep
  stops rest status act = record {
    tickets = tickets;
    rows = rows;
    process = record { variables = variables; scans = scans; rest = rest; status = status };
    act = Some act;
  }

  -- a trap is all that its step does
  abbrev pub traps : Block ℕ → Trap → SourceStep
  traps rest t = stops rest (Trapped t) (A.Trap t)

  -- the value of an expression, or the trap that it ends in
  abbrev pub with_value : Block ℕ → Result ℕ Trap → (ℕ → SourceStep) → SourceStep
  with_value rest (Ok v) then_this = then_this v
  with_value rest (Err t) then_this = traps rest t

  -- a process that there is, or the trap
  abbrev pub with_index : Block ℕ → ℕ → SourceStep → SourceStep
  with_index rest i then_this = if nat_lt i n then then_this else traps rest T.Index

  -- What the first statement does, where `rest` follows it. Of two operands both have a value before
  -- either is taken for a process.
  abbrev pub does : Statement ℕ → Block ℕ → SourceStep
  does (assign x e) rest = with_value rest (value n p variables e) λ v. goes (slice_set variables x v) scans rest None
  does (get x r e) rest =
      with_value rest (value n p variables e) λ i.
      with_index rest i (goes (slice_set variables x (register_at rows r i)) scans rest (Some (A.Get r i (register_at rows r i))))
  does (put r e) rest =
      with_value rest (value n p variables e) λ v.
      record (goes variables scans rest (Some (A.Put r v))) { rows = register_set rows r p v }
  does stamp rest = record (goes variables scans rest (Some A.Stamp)) { tickets = stamp_ticket p tickets }
  does clear rest = record (goes variables scans rest (Some A.Clear)) { tickets = clear_ticket p tickets }
  does (scan s) rest = goes variables (slice_set scans s tickets) rest (Some (A.Scan (told_ranks (length tickets) (ticket_ranks tickets))))
  does (copy t s) rest = goes variables (slice_set scans t (scan_at n scans s)) rest None
  does (older x s e f) rest =
      with_value rest (value n p variables e) λ i. with_value rest (value n p variables f) λ j.
      with_index rest i (with_index rest j (
      let answer = truth_value (older_ticket (scan_at n scans s) i j) in
      goes (slice_set variables x answer) scans rest (Some (A.Older i j answer))))
  does (held x s e) rest =
      with_value rest (value n p variables e) λ i.
      with_index rest i (
      let answer = truth_value (holds_ticket (scan_at n scans s) i) in
      goes (slice_set variables x answer) scans rest (Some (A.Held i answer)))
  does (out e) rest = with_value rest (value n p variables e) λ v. goes variables scans rest (Some (A.Out v))
  does (branch e a b) rest =
      with_value rest (value n p variables e) λ v. goes variables scans (if v == 0 then onto b rest else onto a rest) None
  does (repeat e a) rest =
      with_value rest (value n p variables e) λ v.
      goes variables scans (if v == 0 then rest else onto a (cons (repeat e a) rest)) None

  -- one step, where these statements remain
  abbrev pub did : Block ℕ → SourceStep
  did nil = stops nil Ended A.End
  did (cons s rest) = does s rest

abbrev pub state_after : ℕ → SourceState → SourceStep → SourceState
state_after p s d = record {
  tickets = d.tickets;
  rows = d.rows;
  processes = slice_set s.processes p d.process;
  events = told p d.act s.events;
}

-- a stopped process steps to the same state
abbrev pub step_as : ℕ → ℕ → SourceState → SourceProcess → Status → SourceState
step_as n p s q Running = state_after p s (did n p s.tickets s.rows q.variables q.scans q.rest)
step_as n p s q _ = s

abbrev pub step_of : ℕ → ℕ → SourceState → Option SourceProcess → SourceState
step_of n p s (Some q) = step_as n p s q q.status
step_of n p s None = s

-- one step of process `p` of `n`
abbrev pub source_step : ℕ → ℕ → SourceState → SourceState
source_step n p s = step_of n p s (slice_get s.processes p)

-- A statement that lets others see nothing and enters no block: a copy, an assignment whose expression
-- has a value, a loop that is left.
abbrev pub IsQuiet : ℕ → ℕ → List ℕ → Statement ℕ → Type 0
IsQuiet n p variables (assign x e) = IsOk (value n p variables e)
IsQuiet n p variables (copy t s) = Unit {0}
IsQuiet n p variables (repeat e a) = value n p variables e ≡ Ok 0
IsQuiet n p variables _ = ⊥

abbrev pub HasQuietFirst : ℕ → ℕ → List ℕ → Block ℕ → Type 0
HasQuietFirst n p variables nil = ⊥
HasQuietFirst n p variables (cons s rest) = IsQuiet n p variables s

abbrev pub IsQuietAs : ℕ → ℕ → SourceProcess → Status → Type 0
IsQuietAs n p q Running = HasQuietFirst n p q.variables q.rest
IsQuietAs n p q _ = Unit {0}

abbrev pub IsQuietFor : ℕ → ℕ → Option SourceProcess → Type 0
IsQuietFor n p (Some q) = IsQuietAs n p q q.status
IsQuietFor n p None = ⊥

-- Process `p` of `n` has stopped, or its next statement is quiet.
abbrev pub IsQuietStep : ℕ → ℕ → SourceState → Type 0
IsQuietStep n p s = IsQuietFor n p (slice_get s.processes p)

-- the processes of the list step in its order
abbrev pub source_run : ℕ → List ℕ → SourceState → SourceState
source_run n [] s = s
source_run n (p ∷ schedule) s = source_run n schedule (source_step n p s)

abbrev pub start_process : WholeProgram ℕ → SourceProcess
start_process a = record {
  variables = replicate (length a.variables) 0;
  scans = replicate (length a.scans) (start_tickets a.processes);
  rest = a.body;
  status = Running;
}

abbrev pub source_start : WholeProgram ℕ → SourceState
source_start a = record {
  tickets = start_tickets a.processes;
  rows = start_rows (length a.registers) a.processes;
  processes = replicate a.processes (start_process a);
  events = [];
}

-- the program under this schedule
abbrev pub source : WholeProgram ℕ → List ℕ → SourceState
source a schedule = source_run a.processes schedule (source_start a)

abbrev pub statuses_of : SourceState → List Status
statuses_of s = map (λ q. q.status) s.processes

-- what others see of it
abbrev pub observables : SourceState → Observables
observables s = record { events = s.events; rows = s.rows; statuses = statuses_of s }
