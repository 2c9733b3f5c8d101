use Rattle.std.proofs.lemmas.Result.{IfOk-weaker}
use Rattle.ticklab_line.proofs.Askings.{found_answers, told_answers}
use Rattle.ticklab_line.proofs.asking.asked.Goals as goal

pub returns-in-Ok : goal.returns-in-Ok
returns-in-Ok c =
    IfOk-weaker c.found.result _ _
    (λ l found. found_answers _ c.args.version.now _ c.in-Ok.matches l c.in_ok-command_line.ensures c.in-Ok.ensures.kinds c.in-Ok.ensures.matches found)
    c.found.ensures

pub returns-in-Err : goal.returns-in-Err
returns-in-Err c =
    IfOk-weaker c.told.result _ _
    (λ l told. told_answers _ c.args.version.now _ c.in-Err.error l c.in_ok-command_line.ensures c.in-Err.ensures.kinds told.1 told.0)
    c.told.ensures
