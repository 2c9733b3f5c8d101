use Rattle.std.proofs.Common.{◌≡◌, take}
use Rattle.label_core.specs.Labels.{label_number}
use Rattle.label_core.proofs.digits.number_of.Given as goal

-- the number of the digits so far
abbrev pub invariant-loop-digit : goal.invariant-loop-digit
invariant-loop-digit l = l.number ≡ label_number (take l.digit-index l.digits)
