-- What holds of every run of a program's code on threads.
use Rattle.std.specs.Prelude.{ℕ}
use Rattle.base.specs.Observables.{RunObservables}
use Rattle.base.specs.Plain.{WholeProgram}
use Rattle.code_core.specs.Instructions.{StepCode}
use Rattle.tick_lower.specs.Lowered.{lowered, lowered_sizes}
use Rattle.tick_sim.specs.Maps.{dropped}
use Rattle.tick_merge.specs.Runs.{IsWholeRun}
use Rattle.threads_source.specs.Shown.{ShowsOutcome}

abbrev pub code_of : WholeProgram ℕ → StepCode
code_of a = record { sizes = lowered_sizes a; instructions = lowered a }

-- The program shows what the run of its code showed, under the schedule that the run's stands for.
abbrev pub ThreadedSourceLaw : Type 0
ThreadedSourceLaw = (a : WholeProgram ℕ) (turns outs : ℕ) (o : RunObservables) (run : IsWholeRun (code_of a) turns outs o)
    → ShowsOutcome a (dropped (lowered_sizes a) (lowered a) run.schedule) o
