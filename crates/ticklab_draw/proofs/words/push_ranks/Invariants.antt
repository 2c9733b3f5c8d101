use Rattle.std.proofs.Common.{◌≡◌, ◌++◌, drop, map}
use Rattle.std.specs.Fmt.{decimal}
use Rattle.base.specs.Lines.{spaced}
use Rattle.ticklab_draw.proofs.words.push_ranks.Given as goal

abbrev pub invariant-loop-rank : goal.invariant-loop-rank
invariant-loop-rank l = l.out.items ++ spaced (map decimal (drop l.rank-index l.told)) ≡ l.fn.out.items ++ spaced (map decimal l.told)
