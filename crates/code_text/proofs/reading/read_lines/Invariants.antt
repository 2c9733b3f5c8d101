use Rattle.std.proofs.Common.{◌≡◌, ◌++◌, length}
use Rattle.code_text.specs.CodeText.{code_lines, AllMayStand}
use Rattle.code_text.proofs.reading.read_lines.Given as goal

-- the lines so far
abbrev pub invariant-loop-rest : goal.invariant-loop-rest
invariant-loop-rest l = (code_lines l.instructions.items ++ l.rest ≡ l.text) × AllMayStand l.version l.instructions.items

abbrev pub decreases-loop-rest : goal.decreases-loop-rest
decreases-loop-rest l = length l.rest
