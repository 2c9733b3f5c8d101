use Rattle.std.proofs.Common.{◌≡◌, map, take}
use Rattle.code_machine.proofs.machine.statuses_in.Given as goal

-- the statuses so far
abbrev pub invariant-loop-process : goal.invariant-loop-process
invariant-loop-process l = l.statuses.items ≡ map (λ one. one.process.status) (take l.process-index l.processes)
