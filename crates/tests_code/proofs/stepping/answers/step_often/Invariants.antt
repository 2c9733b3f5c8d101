use Rattle.std.proofs.Common.{◌≡◌, length}
use Rattle.tests_code.proofs.stepping.answers.step_often.Given as goal

abbrev pub invariant-loop-step : goal.invariant-loop-step
invariant-loop-step l = length l.machine.state.processes ≡ length l.fn.machine.state.processes
