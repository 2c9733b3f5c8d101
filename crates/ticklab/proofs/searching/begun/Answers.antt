use Rattle.std.proofs.Common.{◌+◌, List, subst, sym}
use Rattle.ticklab_check.proofs.Listing.{AreSoFar, all_of_them, one_more}
use Rattle.ticklab.specs.Searching.{IsSearchOf}
use Rattle.ticklab.specs.declared.search.FileSearch.{FileSearch}
use Rattle.ticklab.proofs.searching.begun.Goals as goal

pub loop-source-preserved : goal.loop-source-preserved
loop-source-preserved g c =
    let sources = c.args.sources.now in
    let i = c.loop-source.source-index in
    subst (λ (all : List FileSearch). AreSoFar (IsSearchOf c.args.limits) sources (i + 1) all) (sym c.in_ok-push_back.ensures.items)
    (one_more (IsSearchOf c.args.limits) sources i c.loop-source.searches.items c.source-item.result c.begin.result c.loop-source-test.true c.source-item.is
    c.begin.ensures c.loop-source.invariant)

pub returns : goal.returns
returns g c =
    all_of_them (IsSearchOf c.args.limits) c.args.sources.now c.loop-source.source-index c.loop-source.searches.items c.loop-source-test.false c.loop-source.invariant
