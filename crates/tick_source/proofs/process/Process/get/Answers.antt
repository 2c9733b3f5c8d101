use Rattle.std.proofs.Common.{rules, arith, ◌<◌, length}
use Rattle.std.proofs.lemmas.Bool.{lt-ltb}
use Rattle.std.proofs.lemmas.Grind.{common_steps}
use Rattle.tick_source.proofs.Makes.{makes}
use Rattle.tick_source.proofs.process.Process.get.Goals as goal

pub returns-in_ok-tell-in-Ok-clause-ok : goal.returns-in_ok-tell-in-Ok-clause-ok
returns-in_ok-tell-in-Ok-clause-ok c =
    let n = length c.args.shared.now.tickets in
    let below : c.in-Ok.i < n = search rules in
    rw (← c.in-Ok.ensures, lt-ltb c.in-Ok.i n below)
    (makes _ _ _ _ _ (search rules) (search rules) (grind (arith, common_steps))
    (grind (arith, common_steps)) (search rules) (search rules) (search rules))
