-- What has been kept, with what will be kept of the rest of the schedule, is the answer.
use Rattle.std.proofs.Common.{◌≡◌, ◌++◌, drop}
use Rattle.tick_sim.specs.Maps.{dropped_from, dropped}
use Rattle.tick_sim.specs.prover.Stepping.{IsReached}
use Rattle.tick_sim.proofs.dropping.drop.Given as goal

abbrev pub invariant-loop-p : goal.invariant-loop-p
invariant-loop-p l = record {
  kept : l.steps.items ++ dropped_from l.code.sizes.processes l.code.instructions (drop l.p-index l.schedule) l.machine.state ≡ dropped l.code.sizes l.code.instructions l.schedule;
  reached : IsReached l.machine;
  same : l.machine.code ≡ l.code;
}
