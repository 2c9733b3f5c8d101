use Rattle.std.proofs.Common.{◌∙◌, List, ap}
use Rattle.clap.specs.Matches.{found_of}
use Rattle.clap.specs.Walk.{Row, Text, rows_of}
use Rattle.ticklab_line.specs.Commands.{run_of}
use Rattle.ticklab_line.proofs.commands.runs.run_in.Goals as goal

pub returns : goal.returns
returns c =
    let rows : List Row = rows_of (found_of c.args.given.now) in
    c.run_of.ensures ∙ ap (λ (never : List Text). run_of c.args.name.now never rows) c.in_ok-never.ensures
