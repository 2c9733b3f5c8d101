use Rattle.base.specs.View.{tree_of}
use Rattle.ticketc_refusals.proofs.Judged.{no_tree, unaccepted, accepted_in}
use Rattle.ticketc_refusals.proofs.judgement.program_in.Goals as goal

pub returns-in-Err-parse : goal.returns-in-Err-parse
returns-in-Err-parse c =
    let told = c.in_ok-of_text-in-Err-parse.ensures in
    no_tree c.args.input.now c.in-Ok.text.now c.in-Ok.ensures c.in-Err-parse.fault _ (c.in-Err-parse.ensures.refused told.0) told.1

pub returns-in_ok-of_kinds-in-Err-check : goal.returns-in_ok-of_kinds-in-Err-check
returns-in_ok-of_kinds-in-Err-check c =
    let told = c.in_ok-of_kinds-in-Err-check.ensures in
    let parsed = c.in-Ok-parse.ensures in
    unaccepted c.args.input.now c.in-Ok.text.now c.in-Ok.ensures (tree_of c.in-Ok-parse.tree) parsed.tree parsed.limits
    c.in-Err-check.fault _ (c.in-Err-check.ensures.refused told.0) told.1

pub returns-in-Ok-check : goal.returns-in-Ok-check
returns-in-Ok-check c =
    let parsed = c.in-Ok-parse.ensures in
    accepted_in c.args.input.now c.in-Ok.text.now c.in-Ok.ensures (tree_of c.in-Ok-parse.tree) parsed.tree parsed.limits
    c.in-Ok-check.ensures.accepted _ c.in-Ok-check.ensures.program
