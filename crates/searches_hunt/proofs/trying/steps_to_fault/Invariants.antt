use Rattle.std.proofs.Common.{◌≡◌}
use Rattle.tick_kinds.specs.Resolution.{resolved}
use Rattle.searches_explore.specs.Lines.{lines_of}
use Rattle.searches_hunt.specs.prover.Tries.{IsAfter}
use Rattle.searches_hunt.proofs.trying.steps_to_fault.Given as goal

abbrev pub invariant-loop-made : goal.invariant-loop-made
invariant-loop-made l =
    IsAfter (resolved l.program) (lines_of l.lines) l.plan l.run l.made l.tried.machine l.drawing
    × (l.tried.lines.now ≡ l.lines)
    × (l.tried.processes ≡ (resolved l.program).processes)
