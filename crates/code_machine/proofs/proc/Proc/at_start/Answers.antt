use Rattle.std.proofs.Common.{rules, sym, subst, arith}
use Rattle.code_machine.specs.Safety.{IsSafe}
use Rattle.code_machine.proofs.Fine.{verified_places}
use Rattle.code_machine.proofs.Runs.{start_safe}
use Rattle.code_machine.proofs.proc.Proc.at_start.Goals as goal

pub returns-clause-start : goal.returns-clause-start
returns-clause-start c = search rules

pub returns-clause-of : goal.returns-clause-of
returns-clause-of c =
    let code = c.args.code.now in
    let places = verified_places code.sizes code.instructions c.sizes-sizes.ensures.verified in
    record {
      verified = c.sizes-sizes.ensures.verified;
      me = c.requires;
      room = omega (arith, c.in_ok-new.ensures.room, c.height.ensures);
      safe = subst (IsSafe code.sizes code.instructions c.args.p) (sym (returns-clause-start c)) (start_safe code.sizes code.instructions places c.args.p);
    }
