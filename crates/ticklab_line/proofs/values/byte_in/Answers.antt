use Rattle.clap.specs.Matches.{found_of}
use Rattle.ticklab_line.proofs.Numbers.{number_found}
use Rattle.ticklab_line.proofs.values.byte_in.Goals as goal

pub returns : goal.returns
returns c =
    number_found 8 (found_of c.args.given.now) c.args.id.now c.get_one.result
    c.get_one.ensures.none c.get_one.ensures.value
