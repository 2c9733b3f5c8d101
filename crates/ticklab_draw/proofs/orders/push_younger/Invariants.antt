use Rattle.std.proofs.Common.{◌≡◌, ◌++◌, drop}
use Rattle.ticklab_draw.specs.Orders.{younger_text}
use Rattle.ticklab_draw.proofs.orders.push_younger.Given as goal

abbrev pub invariant-loop-process : goal.invariant-loop-process
invariant-loop-process l =
    l.out.items ++ younger_text (drop l.process-index l.processes) ≡ l.fn.out.items ++ younger_text l.processes
