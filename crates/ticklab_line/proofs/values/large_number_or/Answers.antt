use Rattle.clap.specs.Matches.{found_of}
use Rattle.clap.specs.Walk.{rows_of}
use Rattle.ticklab_line.proofs.Numbers.{number_found, number_given}
use Rattle.ticklab_line.proofs.values.large_number_or.Goals as goal

pub returns-in-Some : goal.returns-in-Some
returns-in-Some c =
    number_given 64 c.args.other c.args.id.now (rows_of (found_of c.args.given.now)) _ _ c.in-Some.ensures
    (number_found 64 (found_of c.args.given.now) c.args.id.now c.get_one.result c.get_one.ensures.none c.get_one.ensures.value)
