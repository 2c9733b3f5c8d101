use Rattle.std.proofs.Common.{◌≡◌, ◌-◌, ◌≤◌, length}
use Rattle.language_questions.specs.Extents.{end_of}
use Rattle.language_questions.proofs.extents.Extent.end.Given as goal

abbrev pub invariant-loop-end : goal.invariant-loop-end
invariant-loop-end l = (l.fn.from ≤ length l.bytes → l.end ≤ length l.bytes) × (end_of l.self l.bytes l.end ≡ end_of l.self l.bytes l.fn.from)

abbrev pub decreases-loop-end : goal.decreases-loop-end
decreases-loop-end l = length l.bytes - l.end
