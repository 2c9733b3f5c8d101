use Rattle.std.proofs.Common.{◌≡◌, ◌++◌, drop, map}
use Rattle.ticklab_trace.specs.Places.{standing_at, standings, statement_heads, told_standing}
use Rattle.ticklab_trace.specs.prover.Heads.{HasPassed}
use Rattle.ticklab_trace.proofs.spots.places.Given as goal

-- what stands before the last head was passed, and the spots so far are those of the heads so far
abbrev pub invariant-loop-head : goal.invariant-loop-head
invariant-loop-head l =
    HasPassed l.text l.passed
    × (map told_standing l.spots.items ++ map (standing_at l.text) (drop l.head-index (statement_heads l.tokens l.program))
    ≡ standings l.text l.tokens l.program)
