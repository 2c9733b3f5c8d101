use Rattle.std.proofs.Common.{◌-◌, ◌<◌, ℕ}
use Rattle.word_core.specs.prover.Packing.{Counts, byte_in, presence_in}
use Rattle.word_core.proofs.packing.all_count.Given as goal

-- the processes so far have what they may have
abbrev pub invariant-loop-i : goal.invariant-loop-i
invariant-loop-i l = (k : ℕ) → k < l.i → Counts (l.n - 1) (byte_in l.bits k) (presence_in l.bits k)
