use Rattle.std.proofs.Common.{◌≡◌}
use Rattle.ticklab_answers.specs.Colours.{coloured_to}
use Rattle.ticklab_answers.proofs.colours.coloured.Given as goal

abbrev pub invariant-loop-at : goal.invariant-loop-at
invariant-loop-at l = l.shown.items ≡ coloured_to l.text l.at
