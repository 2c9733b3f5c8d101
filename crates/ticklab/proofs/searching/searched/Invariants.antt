use Rattle.std.proofs.Common.{◌+◌, ◌*◌, length}
use Rattle.ticklab.proofs.EndedSearches.{AreOnTheWay}
use Rattle.ticklab.proofs.searching.searched.Given as goal

abbrev pub invariant-loop-search : goal.invariant-loop-search
invariant-loop-search g l = AreOnTheWay l.limits g.L.Listener.hears l.sources l.fn.listener l.searches.items l.rest l.files.items l.listener

abbrev pub decreases-loop-search : goal.decreases-loop-search
decreases-loop-search g l = length l.searches.items + 2 * length l.rest
