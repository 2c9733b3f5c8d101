use Rattle.std.proofs.Common.{◌≡◌, ◌+◌, ◌≤◌, ◌++◌, drop}
use Rattle.ticklab_draw.specs.Columns.{columns, columns_behind}
use Rattle.ticklab_draw.specs.Words.{names}
use Rattle.ticklab_draw.proofs.columns.columns.Given as goal

abbrev pub invariant-loop-mark : goal.invariant-loop-mark
invariant-loop-mark l = record {
  found :
      l.found.items ++ columns_behind l.look l.cast.processes (names l.cast.registers.now) l.parts l.last (drop l.mark-index l.marks)
      ≡ columns l.look l.cast.processes (names l.cast.registers.now) l.parts l.marks;
  low : l.last.x + l.last.half ≤ 20000;
  few : l.last.band.number ≤ l.mark-index;
  headed : l.last.band.heads ≤ l.mark-index;
}
