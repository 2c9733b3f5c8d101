use Rattle.std.proofs.Common.{subst}
use Rattle.base.specs.View.{tree_of}
use Rattle.tick_syntax.specs.Spelling.{Spells}
use Rattle.ticketc_refusals.proofs.Judged.{no_tree, unaccepted, accepted_in}
use Rattle.ticketc_refusals.proofs.judgement.program_with_tokens.Goals as goal

pub returns-in-Err-parse_with_tokens : goal.returns-in-Err-parse_with_tokens
returns-in-Err-parse_with_tokens c =
    let told = c.in_ok-of_text-in-Err-parse_with_tokens.ensures in
    no_tree c.args.input.now c.in-Ok.text.now c.in-Ok.ensures c.in-Err-parse_with_tokens.fault _ (c.in-Err-parse_with_tokens.ensures.refused told.0) told.1

pub returns-in_ok-of_kinds-in-Err-check : goal.returns-in_ok-of_kinds-in-Err-check
returns-in_ok-of_kinds-in-Err-check c =
    let told = c.in_ok-of_kinds-in-Err-check.ensures in
    let read = c.in-Ok-parse_with_tokens.ensures in
    unaccepted c.args.input.now c.in-Ok.text.now c.in-Ok.ensures (tree_of c.in-Ok-parse_with_tokens.read.0) read.tree read.limits
    c.in-Err-check.fault _ (c.in-Err-check.ensures.refused told.0) told.1

pub returns-in-Ok-check : goal.returns-in-Ok-check
returns-in-Ok-check c =
    let read = c.in-Ok-parse_with_tokens.ensures in (
      accepted_in c.args.input.now c.in-Ok.text.now c.in-Ok.ensures (tree_of c.in-Ok-parse_with_tokens.read.0) read.tree read.limits
          c.in-Ok-check.ensures.accepted _ c.in-Ok-check.ensures.program,
      subst (λ text. Spells text c.in-Ok-parse_with_tokens.read.1.items) c.in-Ok.ensures.1 read.tokens,
    )
