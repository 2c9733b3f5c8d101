use Rattle.std.proofs.Common.{◌∙◌}
use Rattle.ticketc_line.proofs.AskingLemmas.{asked_in-refused, asked_in-taken}
use Rattle.ticketc_line.proofs.asking.asked.Goals as goal

pub returns-in-Ok-clause-asked : goal.returns-in-Ok-clause-asked
returns-in-Ok-clause-asked c =
    c.found.ensures.asked ∙ asked_in-taken _ _ c.in-Ok.matches c.in_ok-command_line.ensures c.in-Ok.ensures.kinds c.in-Ok.ensures.matches

pub returns-clause-asked : goal.returns-clause-asked
returns-clause-asked c =
    asked_in-refused _ _ c.in-Err.error c.in_ok-command_line.ensures c.in-Err.ensures.kinds
    (λ memory. c.in_default.not-OutOfMemory (c.kind.ensures ∙ memory))
