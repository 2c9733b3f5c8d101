use Rattle.std.proofs.Common.{◌≡◌, ◌++◌, drop, map}
use Rattle.ticklab_page.specs.Lists.{line_items}
use Rattle.ticklab_page.proofs.lists.push_line_items.Given as goal

abbrev pub invariant-loop-line : goal.invariant-loop-line
invariant-loop-line l =
    l.page.items ++ line_items (map (λ x. x.now) (drop l.line-index l.lines)) ≡ l.fn.page.items ++ line_items (map (λ x. x.now) l.lines)
