use Rattle.std.proofs.Common.{◌≡◌, ◌≤◌, ◌+◌, take}
use Rattle.std.specs.List.{count_by}
use Rattle.ticklab_explain.specs.Places.{is_line_feed}
use Rattle.ticklab_explain.proofs.spot.numbered_line.Given as goal

abbrev pub invariant-loop-start : goal.invariant-loop-start
invariant-loop-start l = (l.line ≡ count_by is_line_feed (take l.start l.text) + 1) × (l.line ≤ l.start + 1)
