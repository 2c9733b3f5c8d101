use Rattle.std.proofs.Common.{◌≡◌, ◌≤◌, drop}
use Rattle.ticklab_check.specs.Wording.{tally_of, tallied}
use Rattle.ticklab_check.proofs.tally.tally_of.Given as goal

abbrev pub invariant-loop-timed : goal.invariant-loop-timed
invariant-loop-timed l =
    (tallied l.tally (drop l.timed-index l.files) ≡ tally_of l.files)
    × (l.tally.as_expected ≤ l.timed-index) × (l.tally.otherwise ≤ l.timed-index) × (l.tally.limit ≤ l.timed-index)
