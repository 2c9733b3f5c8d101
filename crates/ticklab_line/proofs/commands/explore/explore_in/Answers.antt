use Rattle.std.proofs.Common.{◌∙◌, List, Option, ap}
use Rattle.std.specs.Prelude.{codes}
use Rattle.std.specs.Option.{option_map_or}
use Rattle.clap.specs.Matches.{found_of}
use Rattle.clap.specs.Walk.{Row, Text, rows_of}
use Rattle.ticklab_line.specs.Commands.{ends_in, without_ends}
use Rattle.ticklab_line.specs.Found.{list_of}
use Rattle.ticklab_line.proofs.commands.explore.explore_in.Goals as goal

pub returns-in-None : goal.returns-in-None
returns-in-None c =
    let rows : List Row = rows_of (found_of c.args.given.now) in
    c.without_ends.ensures ∙ ap (λ (never : List Text). without_ends never rows) c.in_ok-never.ensures
    ∙ ap (λ (texts : Option (List Text)). option_map_or (ends_in (list_of (codes "never") rows) rows) texts (without_ends (list_of (codes "never") rows) rows)) c.in-None.ensures
