use Rattle.std.proofs.Common.{◌≡◌, ◌++◌}
use Rattle.ticklab_draw.specs.labels.Captions.{order_text}
use Rattle.ticklab_draw.proofs.labels.caption.push_order.Given as goal

abbrev pub invariant-loop-rank : goal.invariant-loop-rank
invariant-loop-rank l = l.out.items ≡ l.fn.out.items ++ order_text l.ranks l.rank
