use Rattle.std.proofs.Common.{◌≡◌, map, take}
use Rattle.tick_source.proofs.machine.SourceMachine.into_outcome.Given as goal

-- the statuses so far
abbrev pub invariant-loop-process : goal.invariant-loop-process
invariant-loop-process l = l.statuses.items ≡ map (λ q. q.status) (take l.process-index l.process-items)
