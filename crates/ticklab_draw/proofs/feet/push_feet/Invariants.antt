use Rattle.std.proofs.Common.{◌≡◌, ◌++◌, drop}
use Rattle.ticklab_draw.specs.Feet.{feet_text}
use Rattle.ticklab_draw.proofs.feet.push_feet.Given as goal

abbrev pub invariant-loop-at : goal.invariant-loop-at
invariant-loop-at l =
    l.out.items ++ feet_text l.look l.bands l.columns l.marks l.at (drop l.at l.marks)
    ≡ l.fn.out.items ++ feet_text l.look l.bands l.columns l.marks 0 l.marks
