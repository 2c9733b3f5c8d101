use Rattle.std.proofs.Common.{◌≡◌, length}
use Rattle.tick_kinds.specs.Resolution.{resolved}
use Rattle.searches_hunt.proofs.vain.vain_looks.Given as goal

abbrev pub invariant-loop-at : goal.invariant-loop-at
invariant-loop-at l = length l.machine.processes ≡ (resolved l.program).processes
