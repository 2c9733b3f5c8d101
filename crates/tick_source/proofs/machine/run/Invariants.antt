use Rattle.std.proofs.Common.{◌≡◌, length, drop}
use Rattle.tick_kinds.specs.Resolution.{resolved}
use Rattle.tick_source.specs.Source.{source, source_run}
use Rattle.tick_source.proofs.machine.run.Given as goal

-- what is left of the schedule leads to the end of the whole run
abbrev pub invariant-loop-p : goal.invariant-loop-p
invariant-loop-p l =
    (source_run (resolved l.program).processes (drop l.p-index l.schedule) l.machine ≡ source (resolved l.program) l.schedule)
    × (length l.machine.processes ≡ (resolved l.program).processes)
