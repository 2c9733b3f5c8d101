use Rattle.std.proofs.Common.{◌≡◌, ◌+◌, ◌++◌, drop, map}
use Rattle.ticklab_trace.specs.Folds.{rows_from, statement_privacy, statement_rows}
use Rattle.ticklab_trace.proofs.folds.statement_rows.Given as goal

abbrev pub invariant-loop-number : goal.invariant-loop-number
invariant-loop-number l =
    l.rows.items ++ rows_from l.parts (l.before + l.number) l.row (map statement_privacy (drop l.number l.steps))
    ≡ statement_rows l.parts l.before l.steps
