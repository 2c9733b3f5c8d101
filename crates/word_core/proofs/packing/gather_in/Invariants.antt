use Rattle.std.proofs.Common.{◌≡◌, ℕ, ◌-◌, ◌<◌, ◌≤◌, ◌++◌, [], length, take, replicate}
use Rattle.word_core.specs.Stamps.{present}
use Rattle.word_core.specs.prover.Packing.{Counts, byte_in, presence_in, labels_in}
use Rattle.word_core.proofs.packing.gather_in.Given as goal

-- the processes so far have what they may have, and the row their labels
abbrev pub invariant-loop-i : goal.invariant-loop-i
invariant-loop-i l = record {
  counted : (k : ℕ) → k < l.i → Counts (l.n - 1) (byte_in l.bits k) (presence_in l.bits k);
  row : l.row ≡ present (take l.i (labels_in l.n l.bits)) ++ replicate (6 - l.count) [];
  count : l.count ≡ length (present (take l.i (labels_in l.n l.bits)));
  few : l.count ≤ l.i;
}
