use Rattle.std.proofs.Common.{sym, subst}
use Rattle.searches_hunt.specs.prover.Parts.{IsLeft}
use Rattle.searches_hunt.proofs.Left.{left_again, left_all}
use Rattle.searches_hunt.proofs.shrinking.without_places.Goals as goal

pub loop-at-init : goal.loop-at-init
loop-at-init c = subst (λ l. IsLeft l c.args.schedule.now) (sym c.in_ok-rest.ensures.items) (left_all c.args.schedule.now)

pub loop-at-preserved : goal.loop-at-preserved
loop-at-preserved c = left_again c.in_ok-rest-2.rest.items c.loop-at.rest.items c.args.schedule.now c.in_ok-rest-2.ensures c.loop-at.invariant
