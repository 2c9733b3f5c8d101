use Rattle.std.proofs.Common.{◌≡◌, ◌<◌, drop}
use Rattle.code_text.specs.prover.Guess.{leading}
use Rattle.code_text.proofs.reader.Reader.number.Given as goal

-- the value of the digits so far
abbrev pub invariant-loop-at : goal.invariant-loop-at
invariant-loop-at l = (leading 0 l.all ≡ leading l.value (drop l.at l.all)) × (l.value < 4294967296)
