use Rattle.std.proofs.Common.{◌≡◌, ◌++◌, None, drop, map}
use Rattle.ticklab_trace.specs.Folds.{instruction_privacy, instruction_rows, rows_from}
use Rattle.ticklab_trace.proofs.folds.instruction_rows.Given as goal

abbrev pub invariant-loop-number : goal.invariant-loop-number
invariant-loop-number l =
    l.rows.items ++ rows_from None l.number l.row (map instruction_privacy (drop l.number l.steps)) ≡ instruction_rows l.steps
