use Rattle.std.proofs.Common.{◌≡◌, ◌++◌}
use Rattle.ticklab_page.specs.States.{column_head}
use Rattle.ticklab_page.specs.Writing.{for_each}
use Rattle.ticklab_page.proofs.states.push_column_heads.Given as goal

abbrev pub invariant-loop-process : goal.invariant-loop-process
invariant-loop-process l = l.page.items ≡ l.initial.page.items ++ for_each column_head l.process
