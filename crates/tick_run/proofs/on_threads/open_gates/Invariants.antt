use Rattle.std.proofs.Common.{◌≡◌, vec_len}
use Rattle.tick_run.proofs.on_threads.open_gates.Given as goal

abbrev pub invariant-loop : goal.invariant-loop
invariant-loop l = vec_len l.gates ≡ l.counter
