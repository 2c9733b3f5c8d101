-- Whether processes can still all stop, in a program and in its code. One that has ended or trapped has stopped.
use Rattle.std.specs.Prelude.{◌≡◌, ◌↔◌, ◌<◌, ◌++◌, ℕ, zero, suc, Bool, true, false, ◌&&◌, if◌then◌else◌, List, slice_index_or, All}
use Rattle.base.specs.declared.status.Status.{Status}
use Rattle.base.specs.declared.status.Status.TheVariants.{Running, Ended}
use Rattle.base.specs.Plain.{WholeProgram}
use Rattle.tick_lower.specs.Lowered.{lowered, lowered_sizes}
use Rattle.tick_sim.specs.Maps.{dropped, lifted}
use Rattle.tick_sim.specs.Laws.{seen, seen_of_code}

abbrev pub is_stop : Status → Bool
is_stop Running = false
is_stop _ = true

-- whether each process that is asked for has stopped, of the first `n`
abbrev pub have_stopped : (ℕ → Bool) → ℕ → List Status → Bool
have_stopped asked zero statuses = true
have_stopped asked (suc n) statuses =
    have_stopped asked n statuses && (if asked n then is_stop (slice_index_or statuses n Ended) else true)

-- Of `n` processes, by the statuses that they have after each schedule. Nothing here says what a process will do: a
-- schedule may pass one over for ever, also where it can end.
module _ (n : ℕ) (asked : ℕ → Bool) (after : List ℕ → List Status) where
  -- there are steps that may follow this schedule, after which those asked for have all stopped
  abbrev pub CanEnd : List ℕ → Type 0
  CanEnd schedule = (more : List ℕ) × All (λ p. p < n) more × (have_stopped asked n (after (schedule ++ more)) ≡ true)

  -- whatever follows it, they have not
  abbrev pub IsStuck : List ℕ → Type 0
  IsStuck schedule = (more : List ℕ) → have_stopped asked n (after (schedule ++ more)) ≡ false

  -- whatever was done, they can still all stop
  abbrev pub CanAlwaysEnd : Type 0
  CanAlwaysEnd = (schedule : List ℕ) → CanEnd schedule

-- after a schedule of a program, and after one of its code
abbrev pub statuses : WholeProgram ℕ → List ℕ → List Status
statuses a schedule = (seen a schedule).statuses

abbrev pub code_statuses : WholeProgram ℕ → List ℕ → List Status
code_statuses a schedule = (seen_of_code a schedule).statuses

-- After `schedule` the processes of a program can end exactly if those of its code can after `steps`.
pub record EndAlike (a : WholeProgram ℕ) (asked : ℕ → Bool) (schedule steps : List ℕ) : Type 0 where
  pub can : CanEnd a.processes asked (statuses a) schedule ↔ CanEnd a.processes asked (code_statuses a) steps
  pub stuck : IsStuck a.processes asked (statuses a) schedule ↔ IsStuck a.processes asked (code_statuses a) steps

-- It is so of each schedule of the code and the one that it stands for, and of each schedule of the program and the one
-- that leads through it. So a program can always end exactly if its code can.
pub record EndsLaw : Type 0 where
  pub dropped : (a : WholeProgram ℕ) (asked : ℕ → Bool) (steps : List ℕ) → EndAlike a asked (dropped (lowered_sizes a) (lowered a) steps) steps
  pub lifted : (a : WholeProgram ℕ) (asked : ℕ → Bool) (schedule : List ℕ) → EndAlike a asked schedule (lifted (lowered_sizes a) (lowered a) schedule)
  pub always : (a : WholeProgram ℕ) (asked : ℕ → Bool)
      → CanAlwaysEnd a.processes asked (statuses a) ↔ CanAlwaysEnd a.processes asked (code_statuses a)
