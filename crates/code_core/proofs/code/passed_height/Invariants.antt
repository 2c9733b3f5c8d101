use Rattle.code_core.specs.prover.Passing.{Passing}
use Rattle.code_core.proofs.code.passed_height.Given as goal

-- the places so far
abbrev pub invariant-loop-place : goal.invariant-loop-place
invariant-loop-place l = Passing l.sizes l.code l.place l.pass.heights.items l.pass.before l.pass.greatest
