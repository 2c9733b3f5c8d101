use Rattle.std.proofs.Common.{◌≡◌, ◌+◌, ◌≤◌, take, map, vec_items, vec_len, vec_capacity}
use Rattle.std.specs.Prelude.{All}
use Rattle.tick_run.specs.prover.Rows.{IsBlank}
use Rattle.tick_run.proofs.registers.filled_rows.Given as goal

abbrev pub invariant-loop-r : goal.invariant-loop-r
invariant-loop-r l =
    (vec_len l.empty + l.r ≡ l.rows) × All (IsBlank l.processes) (vec_items l.empty)
    × (map (λ row. vec_items row) (vec_items l.filled) ≡ take l.r l.end.rows) × (l.rows ≤ vec_capacity l.filled)
