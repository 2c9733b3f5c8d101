use Rattle.std.proofs.Common.{◌≡◌, ◌++◌, map}
use Rattle.std.specs.Vec.Iter.{into_iter_items}
use Rattle.ticklab_check.proofs.searching.properties_of.Given as goal

abbrev pub invariant-loop-line : goal.invariant-loop-line
invariant-loop-line l =
    l.properties.items ++ map (λ line. line.property) (into_iter_items l.line-iterator) ≡ map (λ line. line.property) l.fn.lines.items
