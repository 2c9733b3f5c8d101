use Rattle.std.proofs.Common.{◌≡◌, ◌≤◌, vec_items, vec_len, vec_capacity}
use Rattle.std.specs.Prelude.{All}
use Rattle.tick_run.specs.prover.Rows.{IsBlank}
use Rattle.tick_run.proofs.registers.blank_rows.Given as goal

abbrev pub invariant-loop : goal.invariant-loop
invariant-loop l = (vec_len l.all ≡ l.counter) × All (IsBlank l.processes) (vec_items l.all) × (l.rows ≤ vec_capacity l.all)
