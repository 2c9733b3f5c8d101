use Rattle.std.proofs.Common.{◌≡◌, drop}
use Rattle.ticklab_draw.specs.Layout.{page_width, widest}
use Rattle.ticklab_draw.proofs.layout.page_width.Given as goal

abbrev pub invariant-loop-column : goal.invariant-loop-column
invariant-loop-column l = widest l.wide (drop l.column-index l.columns) ≡ page_width l.width l.columns
