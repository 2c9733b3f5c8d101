use Rattle.std.proofs.Common.{◌≡◌, ◌++◌}
use Rattle.ticklab_draw.specs.Orders.{ranked}
use Rattle.ticklab_draw.proofs.orders.add_ranked.Given as goal

abbrev pub invariant-loop-i : goal.invariant-loop-i
invariant-loop-i l = l.found.items ≡ l.fn.found.items ++ ranked l.held l.rank l.i
