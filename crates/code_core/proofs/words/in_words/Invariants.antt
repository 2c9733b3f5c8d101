use Rattle.code_core.specs.prover.Coding.{Coding}
use Rattle.code_core.proofs.words.in_words.Given as goal

-- the instructions so far
abbrev pub invariant-loop-instruction : goal.invariant-loop-instruction
invariant-loop-instruction l = Coding l.code l.instruction-index l.words.items l.constants.items
