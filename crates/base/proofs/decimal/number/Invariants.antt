use Rattle.std.proofs.Common.{◌≡◌, ◌≤◌, ◌^◌, drop, option_map}
use Rattle.base.specs.Number.{capped, number_from}
use Rattle.base.proofs.decimal.number.Given as goal

-- the value so far and the bytes to come make the number
abbrev pub invariant-loop-byte : goal.invariant-loop-byte
invariant-loop-byte l =
    (l.value ≤ 2 ^ 32)
    × (option_map capped (number_from l.value (drop l.byte-index l.text)) ≡ option_map capped (number_from 0 l.text))
