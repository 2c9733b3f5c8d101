-- What each step of a program does.
use Rattle.std.specs.Prelude.{◌≡◌, ℕ, List, [], ◌∷◌, length, take, slice_get, slice_index, Option, Some, None, option_and_then}
use Rattle.base.specs.declared.event.Event.{Event}
use Rattle.base.specs.declared.status.Status.{Status}
use Rattle.base.specs.declared.status.Status.TheVariants.{Running}
use Rattle.base.specs.Observables.{told}
use Rattle.base.specs.Plain.{Statement, assign, get, scan, copy, older, held, Block, nil, cons, WholeProgram}
use Rattle.tick_source.specs.Source.{SourceProcess, SourceState, source, source_step}
use Rattle.ticklab_trace.specs.declared.steps.StatementStep.{StatementStep}
use Rattle.ticklab_trace.specs.declared.steps.Scanned.{Scanned}
use Rattle.ticklab_trace.specs.declared.steps.Written.{Written}
use Rattle.ticklab_trace.specs.Numbers.{IsNumber}
use Rattle.ticklab_trace.specs.Shown.{shown}

-- process `p`, where it goes on
abbrev pub running_as : SourceProcess → Status → Option SourceProcess
running_as q Running = Some q
running_as q _ = None

abbrev pub running_at : ℕ → SourceState → Option SourceProcess
running_at p s = option_and_then (λ q. running_as q q.status) (slice_get s.processes p)

-- what it has still to do
abbrev pub remaining : Option SourceProcess → Block ℕ
remaining None = nil
remaining (Some q) = q.rest

-- the variable that a statement writes
abbrev pub target : Statement ℕ → Option ℕ
target (assign x e) = Some x
target (get x r e) = Some x
target (older x s e f) = Some x
target (held x s e) = Some x
target _ = None

abbrev pub first_target : Block ℕ → Option ℕ
first_target nil = None
first_target (cons s rest) = target s

-- the variable with its value after the step, where the process goes on after it
abbrev pub wrote : Option ℕ → Option SourceProcess → Option Written
wrote (Some x) (Some q) = Some (record { variable = x; value = slice_index q.variables x })
wrote _ _ = None

-- the scan that a statement takes or copies
abbrev pub taken_by : Statement ℕ → Option Scanned
taken_by (scan s) = Some (record { scan = s; of = None })
taken_by (copy t s) = Some (record { scan = t; of = Some s })
taken_by _ = None

abbrev pub first_taken : Block ℕ → Option Scanned
first_taken nil = None
first_taken (cons s rest) = taken_by s

-- a run of a program with this body, in the state that it has come to
pub record RunState : Type 0 where
  pub body : Block ℕ
  pub state : SourceState

-- What the step of process `p` from one state to the next is told as. A process that had stopped, and one
-- that has nothing left, does no statement; the first lets others see nothing, the second that it ends.
pub record IsStatementStep (body : Block ℕ) (p : ℕ) (before after : SourceState) (step : StatementStep) : Type 0 where
  pub process : step.process ≡ p
  pub number : IsNumber body step.number (remaining (running_at p before))
  -- what others see of it, where they see something
  pub act : after.events ≡ told p step.act before.events
  pub written : step.written ≡ wrote (first_target (remaining (running_at p before))) (running_at p after)
  pub scanned : step.scanned ≡ first_taken (remaining (running_at p before))
  -- the tickets that it leaves, where it is a stamp or a clear
  pub tickets : step.tickets ≡ shown step.act after.tickets

-- Step `k` is that of the `k`th process of the schedule, where those before it have stepped.
pub record AreStatementSteps (a : WholeProgram ℕ) (schedule : List ℕ) (steps : List StatementStep) : Type 0 where
  pub count : length steps ≡ length schedule
  pub each : (k : ℕ) (step : StatementStep) → slice_get steps k ≡ Some step
      → IsStatementStep a.body (slice_index schedule k) (source a (take k schedule)) (source_step a.processes (slice_index schedule k) (source a (take k schedule))) step

-- what others see of the steps, after these events
abbrev pub events_after : List Event → List StatementStep → List Event
events_after events [] = events
events_after events (step ∷ steps) = events_after (told step.process step.act events) steps
