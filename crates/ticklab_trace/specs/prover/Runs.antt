-- The run that a `SourceRun` stands for.
use Rattle.std.specs.Prelude.{◌≡◌, ℕ, length, slice_index}
use Rattle.tick_kinds.specs.Resolution.{resolved}
use Rattle.ticklab_trace.specs.StatementSteps.{RunState, running_at}
use Rattle.ticklab_trace.specs.declared.source_run.SourceRun.TheInside.{Inside}
use Rattle.ticklab_trace.specs.prover.Links.{HasCome, IsTable}

abbrev pub run_of : Inside → RunState
run_of r = record { body = (resolved r.program.now).body; state = r.machine }

-- its links are those of the program, and each process that runs has come to its number
pub record IsFollowed (r : Inside) : Type 0 where
  pub table : IsTable (resolved r.program.now).body r.links.items
  pub processes : length r.machine.processes ≡ (resolved r.program.now).processes
  pub numbers : length r.numbers.items ≡ (resolved r.program.now).processes
  pub come : (p : ℕ) → HasCome (resolved r.program.now).body (slice_index r.numbers.items p) (running_at p r.machine)
