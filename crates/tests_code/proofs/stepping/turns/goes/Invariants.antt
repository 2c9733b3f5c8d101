use Rattle.std.proofs.Common.{◌≡◌, length}
use Rattle.tests_code.proofs.stepping.turns.goes.Given as goal

abbrev pub invariant-loop-p : goal.invariant-loop-p
invariant-loop-p l = length l.machine.state.processes ≡ l.run.numbers.0
