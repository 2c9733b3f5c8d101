use Rattle.ticklab_verdicts.proofs.Looped.{lasso_told}
use Rattle.ticklab_verdicts.proofs.lasso.lasso_found.Goals as goal

pub returns : goal.returns
returns c =
    let found = c.in_ok-found.ensures in
    lasso_told c.args.input.now c.args.spelled.now.program c.args.asked c.args.prefix.now c.args.cycle.now c.in_ok-found.found c.in_ok-response.response
    found.running found.lasso found.for_ever found.all_stopped found.left_out found.open found.too_long c.in_ok-response.ensures
