use Rattle.std.proofs.Common.{◌≡◌, ◌≤◌, [], take, vec_items, vec_capacity}
use Rattle.std.specs.Prelude.{slice_index_or}
use Rattle.tick_run.proofs.registers.filled_row.Given as goal

abbrev pub invariant-loop-i : goal.invariant-loop-i
invariant-loop-i l = (vec_items l.row ≡ take l.i (slice_index_or l.end.rows l.r [])) × (l.processes ≤ vec_capacity l.row)
