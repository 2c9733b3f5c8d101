use Rattle.std.proofs.Common.{◌≡◌, ◌++◌, drop}
use Rattle.ticklab_draw.specs.Heads.{heads_from, heads_text}
use Rattle.ticklab_draw.proofs.heads.push_heads.Given as goal

abbrev pub invariant-loop-column : goal.invariant-loop-column
invariant-loop-column l =
    l.out.items ++ heads_from l.width l.bands l.last (drop l.column-index l.columns) ≡ l.fn.out.items ++ heads_text l.width l.bands l.columns
