use Rattle.std.proofs.Common.{◌≡◌, length, take}
use Rattle.tick_kinds.specs.Resolution.{resolved}
use Rattle.tick_source.specs.Source.{source}
use Rattle.ticklab_trace.specs.prover.SoFar.{Statements}
use Rattle.ticklab_trace.proofs.source_run.source_steps.Given as goal

-- the first items of the schedule have stepped
abbrev pub invariant-loop-p : goal.invariant-loop-p
invariant-loop-p l = record {
  body : l.run.body ≡ (resolved l.program).body;
  state : l.run.state ≡ source (resolved l.program) (take l.p-index l.schedule);
  processes : length l.run.state.processes ≡ (resolved l.program).processes;
  steps : Statements (resolved l.program) l.schedule l.p-index l.steps.items;
}
