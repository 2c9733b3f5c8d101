use Rattle.std.proofs.Common.{◌≡◌, ◌++◌, drop}
use Rattle.ticklab_draw.specs.Lanes.{bands_from, bands_text}
use Rattle.ticklab_draw.proofs.lanes.push_bands.Given as goal

abbrev pub invariant-loop-column : goal.invariant-loop-column
invariant-loop-column l =
    l.out.items ++ bands_from l.bands l.n l.last (drop l.column-index l.columns) ≡ l.fn.out.items ++ bands_text l.bands l.n l.columns
