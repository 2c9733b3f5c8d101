use Rattle.std.proofs.Common.{◌≡◌, ◌++◌, drop, map}
use Rattle.ticklab_page.specs.Lists.{step_items}
use Rattle.ticklab_page.proofs.lists.push_step_items.Given as goal

abbrev pub invariant-loop-at : goal.invariant-loop-at
invariant-loop-at l =
    l.page.items ++ step_items l.parts l.left l.at (map (λ x. x.now) (drop l.at l.lines)) ≡ l.fn.page.items ++ step_items l.parts l.rows 0 (map (λ x. x.now) l.lines)
