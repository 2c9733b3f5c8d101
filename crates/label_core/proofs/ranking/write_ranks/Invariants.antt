use Rattle.std.proofs.Common.{◌≡◌, ◌++◌, drop, take}
use Rattle.label_core.specs.Labels.{label_ranks}
use Rattle.label_core.proofs.ranking.write_ranks.Given as goal

-- the ranks among the labels so far, and what was there past them
abbrev pub invariant-loop-process : goal.invariant-loop-process
invariant-loop-process l = l.ranks ≡ label_ranks (take l.process l.labels) ++ drop l.process l.fn.ranks
