use Rattle.std.proofs.Common.{◌≡◌, drop}
use Rattle.ticklab_draw.specs.Layout.{first_band}
use Rattle.ticklab_draw.proofs.layout.first_band.Given as goal

abbrev pub invariant-loop-column : goal.invariant-loop-column
invariant-loop-column l = first_band (drop l.column-index l.columns) ≡ first_band l.columns
