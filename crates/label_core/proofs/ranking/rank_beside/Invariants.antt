use Rattle.std.proofs.Common.{◌≡◌, take}
use Rattle.label_core.specs.Labels.{dominated}
use Rattle.label_core.proofs.Pairs.{ranks_so_far}
use Rattle.label_core.proofs.ranking.rank_beside.Given as goal

-- the ranks after the pairs so far
abbrev pub invariant-loop-place : goal.invariant-loop-place
invariant-loop-place l = (l.ranks ≡ ranks_so_far l.label l.others l.place) × (l.rank ≡ dominated (take l.place l.others) l.label)
