use Rattle.std.proofs.Common.{List, [], ℕ, take}
use Rattle.tick_merge.specs.prover.Reached.{Reached, AllTaken}
use Rattle.tick_merge.proofs.merging.Merging.take_all.Given as goal

-- a beginning was gone through
abbrev pub invariant-loop-place : goal.invariant-loop-place
invariant-loop-place l = (turns : List ℕ) → Reached l.code turns [] l.fn.self → AllTaken l.code turns (take l.place l.history) l.self
