use Rattle.std.proofs.Common.{◌≡◌, length}
use Rattle.tests_language.proofs.machine.answers.step_often.Given as goal

abbrev pub invariant-loop-step : goal.invariant-loop-step
invariant-loop-step l = length l.machine.processes ≡ length l.fn.machine.processes
