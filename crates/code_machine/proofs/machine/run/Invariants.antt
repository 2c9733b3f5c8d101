use Rattle.std.proofs.Common.{◌≡◌, length, drop}
use Rattle.code_machine.specs.Machine.{code_run, run_of}
use Rattle.code_machine.proofs.machine.run.Given as goal

-- what is left of the schedule leads to the end of the whole run
abbrev pub invariant-loop-p : goal.invariant-loop-p
invariant-loop-p l =
    (code_run l.code.sizes.processes l.code.instructions (drop l.p-index l.schedule) l.machine.state ≡ run_of l.code.sizes l.code.instructions l.schedule)
    × (l.machine.code ≡ l.code) × (length l.machine.state.processes ≡ l.code.sizes.processes)
