use Rattle.std.proofs.Common.{◌≡◌, ◌+◌, ◌-◌, ◌≤◌, cond, length, drop}
use Rattle.tick_syntax.specs.Spelling.{gap_length, comment_length}
use Rattle.tick_syntax.proofs.extents.gap_end.Given as goal

abbrev pub invariant-loop-end : goal.invariant-loop-end
invariant-loop-end l = (l.end ≤ length l.bytes) × (l.end + cond l.in_comment (comment_length (drop l.end l.bytes)) (gap_length (drop l.end l.bytes)) ≡ l.fn.from + gap_length (drop l.fn.from l.bytes))

abbrev pub decreases-loop-end : goal.decreases-loop-end
decreases-loop-end l = length l.bytes - l.end
