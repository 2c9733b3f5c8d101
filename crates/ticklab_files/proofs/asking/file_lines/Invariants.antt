use Rattle.std.proofs.Common.{◌≡◌, ◌++◌, length, map}
use Rattle.std.specs.Vec.Iter.{into_iter_items}
use Rattle.ticklab_files.specs.Asking.{place_of, text_place}
use Rattle.ticklab_files.proofs.asking.file_lines.Given as goal

abbrev pub invariant-loop-line : goal.invariant-loop-line
invariant-loop-line l =
    (l.properties.items ++ map (λ line. line.property) (into_iter_items l.line-iterator) ≡ map (λ line. line.property) l.fn.lines.items)
    × (map place_of l.places.items ++ map (λ line. text_place l.name l.input line.span) (into_iter_items l.line-iterator)
    ≡ map (λ line. text_place l.name l.input line.span) l.fn.lines.items)
    × (length l.properties.items ≡ length l.places.items)
