use Rattle.std.proofs.Common.{◌≡◌, ◌++◌, take, drop, sym, subst}
use Rattle.std.proofs.lemmas.Result.{IfOk-weaker}
use Rattle.searches_hunt.specs.prover.Parts.{IsLeft}
use Rattle.searches_hunt.proofs.Left.{left_without}
use Rattle.searches_hunt.proofs.leaving.without.Goals as goal

pub returns-clause-left : goal.returns-clause-left
returns-clause-left c =
    let schedule = c.args.schedule.now in
    IfOk-weaker c.with_ends.result (λ rest. rest.items ≡ take c.args.from schedule ++ drop c.args.to schedule) (λ rest. IsLeft rest.items schedule)
    (λ rest is. subst (λ l. IsLeft l schedule) (sym is) (left_without c.args.from c.args.to schedule c.requires.from)) c.with_ends.ensures
