use Rattle.std.proofs.Common.{◌∙◌, List, ap}
use Rattle.clap.specs.Matches.{found_of}
use Rattle.clap.specs.Walk.{Row, Text, rows_of}
use Rattle.ticklab_line.specs.Commands.{check_of}
use Rattle.ticklab_line.proofs.commands.check.check_in.Goals as goal

pub returns : goal.returns
returns c =
    let rows : List Row = rows_of (found_of c.args.given.now) in
    c.check_of.ensures ∙ ap (λ (paths : List Text). check_of paths rows) c.in_ok-paths.ensures
