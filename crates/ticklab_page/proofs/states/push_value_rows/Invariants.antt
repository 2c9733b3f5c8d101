use Rattle.std.proofs.Common.{◌≡◌, ◌++◌, drop}
use Rattle.ticklab_draw.specs.Words.{names}
use Rattle.ticklab_page.specs.States.{value_rows}
use Rattle.ticklab_page.proofs.states.push_value_rows.Given as goal

abbrev pub invariant-loop-number : goal.invariant-loop-number
invariant-loop-number l =
    l.page.items ++ value_rows l.letter l.cell l.n l.number (names (drop l.number l.section)) ≡ l.fn.page.items ++ value_rows l.letter l.cell l.n 0 (names l.section)
