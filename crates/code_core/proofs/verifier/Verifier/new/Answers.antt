use Rattle.std.proofs.Common.{rules, sym, subst, Some}
use Rattle.code_core.specs.prover.Passing.{Passing}
use Rattle.code_core.proofs.Passing.{pass_start}
use Rattle.code_core.proofs.verifier.Verifier.new.Goals as goal

pub returns-clause-ok : goal.returns-clause-ok
returns-clause-ok c =
    subst (λ hs. Passing c.args.sizes c.args.code.now 0 hs (Some 0) 0) (sym (c.in_ok-vec.ensures.items_if_clones_equal (λ y e. search rules))) (pass_start c.args.sizes c.args.code.now)
