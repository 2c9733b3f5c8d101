use Rattle.std.proofs.lemmas.Result.{IfOk-weaker}
use Rattle.ticketc_refusals.specs.Refusals.{IsCodeRefused}
use Rattle.ticketc_answers.specs.Codes.{IsNoCode, IsNotLowered, is_code, is_lowered, no_code, not_lowered}
use Rattle.ticketc_answers.specs.Inputs.{Refuses}
use Rattle.ticketc_answers.proofs.Told.{err_told}
use Rattle.ticketc_answers.proofs.codes.runnable_code.Goals as goal

pub returns-then-begins_code-clause-code : goal.returns-then-begins_code-clause-code
returns-then-begins_code-clause-code c =
    IfOk-weaker _ _ _ (λ code is. is_code (c.begins_code.ensures.yes c.if-begins_code.true) is) c.read.ensures.code

pub returns-then-begins_code-clause-refused : goal.returns-then-begins_code-clause-refused
returns-then-begins_code-clause-refused c =
    let begins = c.begins_code.ensures.yes c.if-begins_code.true in
    err_told c.read.result (Refuses (IsCodeRefused c.args.input.now)) (IsNoCode c.args.input.now) (λ a told. no_code begins told) c.read.ensures.refused

pub returns-else-begins_code-clause-code : goal.returns-else-begins_code-clause-code
returns-else-begins_code-clause-code c =
    let isnt = c.begins_code.ensures.no c.if-begins_code.false in
    IfOk-weaker _ _ _ (λ code low. is_lowered isnt low) c.lowered_code.ensures.code

pub returns-else-begins_code-clause-refused : goal.returns-else-begins_code-clause-refused
returns-else-begins_code-clause-refused c =
    let isnt = c.begins_code.ensures.no c.if-begins_code.false in
    err_told c.lowered_code.result (IsNotLowered c.args.input.now) (IsNoCode c.args.input.now) (λ a told. not_lowered isnt told) c.lowered_code.ensures.refused
