use Rattle.std.proofs.Common.{◌≡◌, ◌≤◌, drop, max}
use Rattle.tick_lower.specs.prover.Paired.{greatest_from}
use Rattle.tick_lower.proofs.lowering.greatest_height.Given as goal

-- no height is above its place, and the instructions to come complete the greatest
abbrev pub invariant-loop-instruction : goal.invariant-loop-instruction
invariant-loop-instruction l =
    (l.height ≤ l.instruction-index)
    × (max l.greatest (greatest_from l.height (drop l.instruction-index l.code)) ≡ greatest_from 0 l.code)
