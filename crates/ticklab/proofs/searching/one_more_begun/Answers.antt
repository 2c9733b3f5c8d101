use Rattle.std.proofs.Common.{List, refl, subst, sym}
use Rattle.ticklab_check.specs.declared.source.Source.{Source}
use Rattle.ticklab.specs.Searching.{OneMoreBegun}
use Rattle.ticklab.proofs.searching.one_more_begun.Goals as goal

pub returns : goal.returns
returns g c =
    subst (λ (sources : List Source). OneMoreBegun c.args.limits sources c.args.searches.now.items c.push_back.new.self.items c.in-Some.others.now)
    (sym c.in-Some.ensures.cases.0) (refl, (c.begin.result, c.begin.ensures, c.in_ok-push_back.ensures.items))
