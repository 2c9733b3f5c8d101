use Rattle.ticklab.specs.Searching.{IsSearchOf}
use Rattle.ticklab_check.proofs.Listing.{AreSoFar}
use Rattle.ticklab.proofs.searching.begun.Given as goal

abbrev pub invariant-loop-source : goal.invariant-loop-source
invariant-loop-source g l = AreSoFar (IsSearchOf l.limits) l.sources l.source-index l.searches.items
