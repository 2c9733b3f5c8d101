use Rattle.std.proofs.Common.{◌≡◌, ◌++◌, drop, map}
use Rattle.ticklab_page.specs.Changes.{change_lines}
use Rattle.ticklab_page.specs.Steps.{of_instruction}
use Rattle.ticklab_page.proofs.changes.instruction_changes.Given as goal

abbrev pub invariant-loop-step : goal.invariant-loop-step
invariant-loop-step l =
    l.lines.items ++ change_lines (map of_instruction (drop l.step-index l.steps)) ≡ change_lines (map of_instruction l.steps)
