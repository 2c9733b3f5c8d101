use Rattle.std.proofs.Common.{◌≡◌, ◌++◌, drop, length, map}
use Rattle.searches_explore.specs.Lines.{lines_of}
use Rattle.ticklab_files.specs.Asking.{option_place, options_after, place_of, texts_of}
use Rattle.ticklab_files.proofs.asking.with_options.Given as goal

abbrev pub invariant-loop-text : goal.invariant-loop-text
invariant-loop-text l =
    (options_after l.program (lines_of l.properties.items) (texts_of (drop l.text-index l.never))
    ≡ options_after l.program (lines_of l.fn.lines.properties.items) (texts_of l.never))
    × (map place_of l.places.items ++ map option_place (texts_of (drop l.text-index l.never))
    ≡ map place_of l.fn.lines.places.items ++ map option_place (texts_of l.never))
    × (length l.properties.items ≡ length l.places.items)
