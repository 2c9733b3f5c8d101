use Rattle.std.proofs.Common.{◌≡◌, ◌++◌, drop}
use Rattle.ticklab_draw.specs.Pictures.{groups_text}
use Rattle.ticklab_draw.specs.Words.{names}
use Rattle.ticklab_draw.proofs.page.push_groups.Given as goal

abbrev pub invariant-loop-at : goal.invariant-loop-at
invariant-loop-at l =
    l.out.items ++ groups_text l.look l.bands l.cast.processes (names l.cast.registers.now) l.columns l.at (drop l.at l.marks)
    ≡ l.fn.out.items ++ groups_text l.look l.bands l.cast.processes (names l.cast.registers.now) l.columns 0 l.marks
