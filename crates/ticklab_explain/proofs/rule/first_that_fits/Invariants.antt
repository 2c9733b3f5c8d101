use Rattle.std.proofs.Common.{◌≡◌, drop}
use Rattle.ticklab_explain.specs.Conditions.{first_fitting}
use Rattle.ticklab_explain.specs.Rows.{rows_of}
use Rattle.ticklab_explain.specs.Settings.{setting}
use Rattle.ticklab_explain.proofs.rule.first_that_fits.Given as goal

abbrev pub invariant-loop-conditions : goal.invariant-loop-conditions
invariant-loop-conditions l =
    first_fitting (setting l.scene) l.wanted (rows_of (drop l.conditions-index l.rules))
    ≡ first_fitting (setting l.scene) l.wanted (rows_of l.rules)
