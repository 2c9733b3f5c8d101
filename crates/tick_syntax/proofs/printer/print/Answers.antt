use Rattle.std.proofs.Common.{◌≡◌, ℕ, List, sym, subst, string_bytes, arith}
use Rattle.std.proofs.lemmas.Grind.{common_steps}
use Rattle.tick_syntax.specs.Printed.{printed}
use Rattle.tick_syntax.specs.RoundTrip.{ReadsAs}
use Rattle.base.specs.Plain.{tree_of}
use Rattle.tick_syntax.proofs.RoundTrips.{reads_back}
use Rattle.tick_syntax.proofs.printer.print.Goals as goal

pub returns-clause-reads_back : goal.returns-clause-reads_back
returns-clause-reads_back c = λ origin is.
    let text : string_bytes c.push_body.new.out ≡ printed (tree_of c.args.tree.now) = grind (arith, common_steps) in
    subst (λ (bytes : List ℕ). ReadsAs bytes (tree_of c.args.tree.now)) (sym text) (reads_back origin (tree_of c.args.tree.now) is)
