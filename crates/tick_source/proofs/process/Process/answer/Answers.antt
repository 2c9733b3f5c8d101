use Rattle.std.proofs.Common.{rules, arith, length}
use Rattle.std.proofs.lemmas.Bool.{lt-ltb}
use Rattle.std.proofs.lemmas.Grind.{common_steps}
use Rattle.tick_source.proofs.Makes.{makes}
use Rattle.tick_source.proofs.process.Process.answer.Goals as goal

pub returns-clause-ok : goal.returns-clause-ok
returns-clause-ok c =
    let n = length c.args.shared.now.tickets in
    rw (lt-ltb c.args.i n c.requires.first, lt-ltb c.args.j n c.requires.second) (makes _ _ _ _ _ (search rules) (search rules) (grind (arith, common_steps))
    (grind (arith, common_steps)) (search rules) (search rules) (search rules))
