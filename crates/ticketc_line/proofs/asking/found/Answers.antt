use Rattle.std.proofs.Common.{◌∙◌, ap, codes}
use Rattle.clap.proofs.WalkLemmas.{first_value-rows}
use Rattle.clap.specs.Matches.{found_of}
use Rattle.ticketc_line.specs.Asked.{named}
use Rattle.ticketc_line.proofs.AskingLemmas.{named-rows}
use Rattle.ticketc_line.proofs.asking.found.Goals as goal

pub returns-in-Some-clause-asked : goal.returns-in-Some-clause-asked
returns-in-Some-clause-asked c =
    c.request_named.ensures.asked
    ∙ ap (named c.in-Some.name.now) (c.get_str.ensures ∙ first_value-rows (found_of c.in-Some.inner.now) (codes "value"))
    ∙ named-rows _ _ _ c.in-Some.ensures.name c.in-Some.ensures.rows
