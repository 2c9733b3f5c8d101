use Rattle.std.proofs.Common.{◌≡◌, ◌≤◌, ◌+◌, drop, slice_range}
use Rattle.ticklab_trace.specs.Places.{place_after}
use Rattle.ticklab_trace.proofs.spots.passed_on.Given as goal

-- the bytes so far were passed
abbrev pub invariant-loop-byte : goal.invariant-loop-byte
invariant-loop-byte l =
    let part = slice_range l.bytes l.fn.passed.at l.start in
    (place_after l.place (drop l.byte-index part) ≡ place_after l.fn.passed.place part)
    × (l.place.line ≤ 1 + l.fn.passed.at + l.byte-index) × (l.place.column ≤ 1 + l.fn.passed.at + l.byte-index)
