use Rattle.std.proofs.Common.{vec_items}
use Rattle.tick_merge.specs.prover.Reached.{AreNew}
use Rattle.tick_merge.proofs.merging.Merging.new.Given as goal

-- the processes so far
abbrev pub invariant-loop-p : goal.invariant-loop-p
invariant-loop-p l = AreNew l.code l.p (vec_items l.processes)
