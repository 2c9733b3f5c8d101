use Rattle.std.proofs.Common.{◌≡◌, ◌++◌, drop, true}
use Rattle.ticklab_draw.specs.labels.Captions.{ranked_text}
use Rattle.ticklab_draw.proofs.labels.caption.push_ranked.Given as goal

abbrev pub invariant-loop-process : goal.invariant-loop-process
invariant-loop-process l =
    l.out.items ++ ranked_text l.rank l.first l.process (drop l.process l.ranks)
    ≡ l.fn.out.items ++ ranked_text l.rank true 0 l.ranks
