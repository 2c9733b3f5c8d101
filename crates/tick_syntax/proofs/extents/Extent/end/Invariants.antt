use Rattle.std.proofs.Common.{◌≡◌, ◌+◌, ◌-◌, ◌≤◌, length, drop}
use Rattle.tick_syntax.specs.prover.Extents.{taken_length}
use Rattle.tick_syntax.proofs.extents.Extent.end.Given as goal

abbrev pub invariant-loop-end : goal.invariant-loop-end
invariant-loop-end l = (l.end ≤ length l.bytes) × (l.end + taken_length l.self (drop l.end l.bytes) ≡ l.fn.from + taken_length l.self (drop l.fn.from l.bytes))

abbrev pub decreases-loop-end : goal.decreases-loop-end
decreases-loop-end l = length l.bytes - l.end
