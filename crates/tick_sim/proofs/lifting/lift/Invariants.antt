-- What has been led through, with what will be of the rest of the schedule, is the answer; and each
-- process of the code stands between two steps, beside some state of the program.
use Rattle.std.proofs.Common.{◌≡◌, ◌++◌, drop}
use Rattle.tick_source.specs.Source.{SourceState}
use Rattle.tick_sim.specs.Maps.{lifted_from, lifted}
use Rattle.tick_sim.specs.prover.Stepping.{IsReached}
use Rattle.tick_sim.proofs.States.{AllBetween}
use Rattle.tick_sim.proofs.lifting.lift.Given as goal

abbrev pub invariant-loop-p : goal.invariant-loop-p
invariant-loop-p l = record {
  led : l.steps.items ++ lifted_from l.code.sizes.processes l.code.instructions (drop l.p-index l.schedule) l.machine.state ≡ lifted l.code.sizes l.code.instructions l.schedule;
  reached : IsReached l.machine;
  same : l.machine.code ≡ l.code;
  beside : SourceState;
  between : AllBetween l.code.sizes.processes l.code.instructions beside l.machine.state;
}
