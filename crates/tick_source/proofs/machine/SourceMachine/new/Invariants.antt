use Rattle.std.proofs.Common.{◌≡◌, map, replicate}
use Rattle.tick_kinds.specs.Resolution.{resolved}
use Rattle.tick_source.specs.Source.{start_process}
use Rattle.tick_source.specs.prover.Machine.{process_of}
use Rattle.tick_source.proofs.machine.SourceMachine.new.Given as goal

-- the processes so far
abbrev pub invariant-loop : goal.invariant-loop
invariant-loop l = map process_of l.processes.items ≡ replicate l.counter (start_process (resolved l.program))
