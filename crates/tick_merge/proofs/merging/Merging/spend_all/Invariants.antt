use Rattle.std.proofs.Common.{List, ℕ}
use Rattle.word_core.specs.declared.history.Shared.{Shared}
use Rattle.tick_merge.specs.prover.Reached.{AllTaken}
use Rattle.tick_merge.proofs.Ending.{FirstSpent}
use Rattle.tick_merge.proofs.merging.Merging.spend_all.Given as goal

-- the first processes made the rest of their instructions
abbrev pub invariant-loop-p : goal.invariant-loop-p
invariant-loop-p l = (turns : List ℕ) (history : List Shared) → AllTaken l.code turns history l.fn.self → FirstSpent l.code turns history l.p l.self
