use Rattle.std.proofs.Common.{◌≡◌}
use Rattle.ticklab_draw.specs.Orders.{holders_below}
use Rattle.ticklab_draw.proofs.orders.holders_below.Given as goal

abbrev pub invariant-loop-rank : goal.invariant-loop-rank
invariant-loop-rank l = l.found.items ≡ holders_below l.held l.n l.rank
