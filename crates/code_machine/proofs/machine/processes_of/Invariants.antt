use Rattle.code_machine.specs.prover.Parts.{AreNew}
use Rattle.code_machine.proofs.machine.processes_of.Given as goal

-- the processes so far
abbrev pub invariant-loop-p : goal.invariant-loop-p
invariant-loop-p l = AreNew l.code l.p l.processes.items
