use Rattle.std.proofs.Common.{◌≡◌, List, length, take}
use Rattle.searches_explore.specs.Lines.{lines_of}
use Rattle.tick_kinds.specs.Resolution.{resolved}
use Rattle.tick_source.specs.Source.{source}
use Rattle.ticklab_draw.specs.Marks.{with_statement}
use Rattle.ticklab_trace.specs.declared.steps.StatementStep.{StatementStep}
use Rattle.ticklab_trace.specs.prover.SoFar.{Statements}
use Rattle.ticklab_runs.specs.prover.Kept.{IsKept}
use Rattle.ticklab_runs.proofs.Breaks.{FoundBefore}
use Rattle.ticklab_runs.proofs.following.follow.Given as goal

-- the first items of the schedule have stepped, and each state before the last was asked
abbrev pub invariant-loop-at : goal.invariant-loop-at
invariant-loop-at l = record {
  body : l.run.body ≡ (resolved l.program).body;
  state : l.run.state ≡ source (resolved l.program) (take l.at l.schedule);
  processes : length l.run.state.processes ≡ l.program.processes;
  rows : length l.run.state.rows ≡ length l.program.registers;
  steps : (steps : List StatementStep) × Statements (resolved l.program) l.schedule l.at steps
      × IsKept with_statement l.telling steps l.steps.items l.marking.marks.items;
  broken : FoundBefore (resolved l.program) (lines_of l.lines) l.schedule l.at l.broken;
}
