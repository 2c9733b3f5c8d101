use Rattle.std.proofs.Common.{[], sym, subst, arith}
use Rattle.std.proofs.lemmas.List.{take_all}
use Rattle.searches_hunt.specs.prover.Parts.{IsLeft}
use Rattle.searches_hunt.proofs.Left.{left_all, left_on}
use Rattle.searches_hunt.proofs.leaving.without_steps.Goals as goal

pub loop-at-init : goal.loop-at-init
loop-at-init c = subst (λ l. IsLeft l []) (sym c.in_ok-rest.ensures.items) (left_all [])

pub loop-at-preserved : goal.loop-at-preserved
loop-at-preserved c =
    left_on c.loop-at.at c.loop-at.rest.items c.keep.new.rest.items c.args.schedule.now c.loop-at-test.true c.loop-at.invariant c.in_ok-keep.ensures

pub returns : goal.returns
returns c =
    subst (IsLeft c.loop-at.rest.items) (take_all c.loop-at.at c.args.schedule.now (omega (arith, c.loop-at-test.false))) c.loop-at.invariant
