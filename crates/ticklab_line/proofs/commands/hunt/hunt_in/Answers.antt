use Rattle.std.proofs.Common.{◌∙◌, List, Option, ap}
use Rattle.std.specs.Option.{option_map_or}
use Rattle.clap.specs.Matches.{found_of}
use Rattle.clap.specs.Walk.{Row, Text, rows_of}
use Rattle.ticklab_line.specs.Commands.{plan_in, plan_of, runs_in}
use Rattle.ticklab_line.proofs.commands.hunt.hunt_in.Goals as goal

pub returns : goal.returns
returns c =
    let rows : List Row = rows_of (found_of c.args.given.now) in
    c.plan_of.ensures ∙ ap (λ (never : List Text). plan_of never rows) c.in_ok-never.ensures
    ∙ ap (λ (texts : Option (List Text)). option_map_or (runs_in rows) texts (plan_in rows)) c.in-None.ensures
