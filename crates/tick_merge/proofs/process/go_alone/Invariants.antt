use Rattle.std.proofs.Common.{◌≡◌, ◌++◌, replicate, vec_items}
use Rattle.code_machine.specs.Process.{IsOf}
use Rattle.tick_merge.specs.prover.Held.{GoesAlone}
use Rattle.tick_merge.proofs.process.go_alone.Given as goal

abbrev pub invariant-loop-count : goal.invariant-loop-count
invariant-loop-count l =
    IsOf l.code l.proc × (l.proc.me ≡ l.p) × (vec_items l.schedule ≡ vec_items l.fn.schedule ++ replicate l.count l.p)
    × GoesAlone l.code.sizes.processes l.code.instructions l.p l.most l.fn.proc.process l.count l.proc.process
