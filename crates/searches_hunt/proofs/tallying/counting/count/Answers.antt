use Rattle.std.proofs.Common.{ap, ◌∙◌, sym, rules}
use Rattle.std.proofs.Math.Seq.{map-set_same}
use Rattle.searches_hunt.proofs.Joined.{nothing_added, one_time_more}
use Rattle.searches_hunt.proofs.tallying.counting.count.Goals as goal

pub returns-then-eq-clause-texts : goal.returns-then-eq-clause-texts
returns-then-eq-clause-texts c =
    map-set_same (λ d. d.outcome) _ _ _ _ (ap (λ d. d.outcome) c.index_mut.ensures.value)
    ∙ sym (nothing_added c.args.counts.now.items c.in-Some.last c.index.result.now c.args.text (search rules) (search rules) (search rules))

pub returns-then-eq-clause-counted : goal.returns-then-eq-clause-counted
returns-then-eq-clause-counted c =
    one_time_more c.args.counts.now.items c.in-Some.last c.index.result.now c.index_mut.result.now c.args.text (search rules) (search rules) c.index_mut.ensures.value
    (search rules)
