-- What holds of the code of a program because it holds of the program.
use Rattle.std.specs.Prelude.{◌≡◌, ℕ, Bool, true, false, List, slice_get, Some}
use Rattle.std.specs.List.{list_any}
use Rattle.base.specs.declared.status.Trap.{Trap}
use Rattle.base.specs.declared.run_outcome.RunEnd.TheVariants.{Trapped}
use Rattle.base.specs.Observables.{RunObservables}
use Rattle.base.specs.Plain.{WholeProgram}
use Rattle.tick_source.specs.Source.{source}
use Rattle.tick_lower.specs.Lowered.{lowered, lowered_sizes}
use Rattle.tick_sim.specs.Maps.{lifted}
use Rattle.tick_sim.specs.Ends as S
use Rattle.tick_sim.specs.Laws.{seen_of_code}
use Rattle.tick_merge.specs.Runs.{IsWholeRun}
use Rattle.threads_source.specs.Laws.{code_of}
use Rattle.searches_states.specs.Ending.{is_asked}
use Rattle.searches_states.specs.declared.must_stop.MustStop.{MustStop}
use Rattle.searches_explore.specs.Ending as E
use Rattle.searches_explore.specs.Explored.{is_trap, has_trapped}
use Rattle.searches_explore.specs.Searching.{NeverTraps}

-- whether some process of the code has trapped under this schedule
abbrev pub code_has_trapped : WholeProgram ℕ → List ℕ → Bool
code_has_trapped a schedule = list_any is_trap (seen_of_code a schedule).statuses

pub record CodeLaw : Type 0 where
  pub never : (a : WholeProgram ℕ) → NeverTraps a → (schedule : List ℕ) → code_has_trapped a schedule ≡ false
  pub traps : (a : WholeProgram ℕ) (schedule : List ℕ) → has_trapped (source a schedule) ≡ true
      → code_has_trapped a (lifted (lowered_sizes a) (lowered a) schedule) ≡ true

-- Where no process of a program traps under any schedule, none ends trapped in a run of its code on threads.
abbrev pub ThreadsLaw : Type 0
ThreadsLaw = (a : WholeProgram ℕ) → NeverTraps a → (turns outs : ℕ) (o : RunObservables) → IsWholeRun (code_of a) turns outs o
    → (p : ℕ) (trap : Trap) → slice_get o.ends p ≡ Some (Trapped trap) → ⊥

-- Of those processes that are asked for: where they can always end in a program, they can in its code. Where they can't
-- end any more in the program, they can't in the code after the schedule that leads through the same. Nothing says that
-- they do end in the code.
pub record CodeEndsLaw : Type 0 where
  pub always : (a : WholeProgram ℕ) (asked : MustStop) → E.CanAlwaysEnd a asked → S.CanAlwaysEnd a.processes (is_asked asked) (S.code_statuses a)
  pub stuck : (a : WholeProgram ℕ) (asked : MustStop) (schedule : List ℕ) → E.IsStuck a asked schedule
      → S.IsStuck a.processes (is_asked asked) (S.code_statuses a) (lifted (lowered_sizes a) (lowered a) schedule)
