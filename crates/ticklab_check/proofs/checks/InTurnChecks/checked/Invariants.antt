use Rattle.ticklab_check.specs.Checking.{SourceComesTo}
use Rattle.ticklab_check.proofs.Listing.{AreHeardSoFar, AreSoFar}
use Rattle.ticklab_check.proofs.checks.InTurnChecks.checked.Given as goal

abbrev pub invariant-loop-source : goal.invariant-loop-source
invariant-loop-source g l =
    AreSoFar (λ source timed. SourceComesTo l.limits source timed.checked) l.sources l.source-index l.files.items
    × AreHeardSoFar g.L.Listener.hears l.sources l.fn.listener l.source-index l.files.items l.listener
