-- The steps that are left until the process commits lead from here to where all of them lead.
use Rattle.std.proofs.Common.{◌≡◌, ℕ, ◌-◌, ◌++◌, length, replicate, Some}
use Rattle.code_machine.specs.Machine.{code_run}
use Rattle.tick_sim.specs.Maps.{steps_to_commit, steps_of}
use Rattle.tick_sim.specs.prover.Stepping.{IsReached}
use Rattle.tick_sim.proofs.lifting.lead_through.Given as goal

abbrev pub invariant-loop : goal.invariant-loop
invariant-loop l = record {
  reached : IsReached l.machine;
  same : l.machine.code ≡ l.code;
  left : ℕ;
  commits : steps_to_commit l.code.sizes.processes l.code.instructions l.p (length l.code.instructions - l.counter) l.machine.state
      ≡ Some left;
  steps : l.steps.items ++ replicate left l.p
      ≡ l.initial.steps.items ++ steps_of l.code.sizes.processes l.code.instructions l.p l.initial.machine.state;
  leads : code_run l.code.sizes.processes l.code.instructions (replicate left l.p) l.machine.state
      ≡ code_run l.code.sizes.processes l.code.instructions
      (steps_of l.code.sizes.processes l.code.instructions l.p l.initial.machine.state) l.initial.machine.state;
}
