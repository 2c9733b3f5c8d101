use Rattle.std.proofs.Common.{◌≡◌, ℕ, ◌<◌, ◌+◌, length}
use Rattle.std.specs.Prelude.{slice_index}
use Rattle.std.specs.Mem.Slots.{slots_items}
use Rattle.stamp_table.proofs.closing.copied.Given as goal

abbrev pub invariant-loop-k : goal.invariant-loop-k
invariant-loop-k l = (length l.registers ≡ 48) × ((k : ℕ) → k < l.k → slice_index l.registers k ≡ slice_index (slots_items l.closed.words) (1 + k))
