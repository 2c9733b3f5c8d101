use Rattle.std.proofs.Common.{◌≡◌, ◌++◌, drop, map}
use Rattle.ticklab_trace.specs.Places.{told_standing}
use Rattle.ticklab_page.specs.Changes.{change_lines}
use Rattle.ticklab_page.specs.Steps.{of_statement}
use Rattle.ticklab_page.proofs.changes.statement_changes.Given as goal

abbrev pub invariant-loop-step : goal.invariant-loop-step
invariant-loop-step l =
    l.page.items ++ change_lines (map (of_statement (map told_standing l.spots)) (drop l.step-index l.steps))
    ≡ change_lines (map (of_statement (map told_standing l.spots)) l.steps)
