use Rattle.std.proofs.Common.{◌≡◌, ◌++◌, drop, false, map, None}
use Rattle.serde_json.specs.View.{view}
use Rattle.ticklab_trace.specs.Places.{told_standing}
use Rattle.ticklab_json.specs.Steps.{statement_list}
use Rattle.ticklab_json.proofs.source.statement_values.Given as goal

abbrev pub invariant-loop-number : goal.invariant-loop-number
invariant-loop-number l =
    map view l.values.items ++ statement_list l.program (map told_standing l.spots) None false None l.number (drop l.number l.steps)
    ≡ statement_list l.program (map told_standing l.spots) None false None 0 l.steps
