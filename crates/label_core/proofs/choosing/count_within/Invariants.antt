use Rattle.std.proofs.Common.{◌≡◌, ◌≤◌, take}
use Rattle.std.specs.Prelude.{count_by}
use Rattle.label_core.specs.prover.Numbers.{is_within}
use Rattle.label_core.proofs.choosing.count_within.Given as goal

-- how many of those so far
abbrev pub invariant-loop-label : goal.invariant-loop-label
invariant-loop-label l = (l.within ≡ count_by (is_within l.first l.count) (take l.label-index l.labels)) × (l.within ≤ l.label-index)
