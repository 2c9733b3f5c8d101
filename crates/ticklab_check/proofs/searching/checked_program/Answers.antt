use Rattle.std.proofs.Common.{◌≡◌, List, ℕ, Err, subst}
use Rattle.language_questions.specs.Lines.{questions_in}
use Rattle.ticklab_check.specs.Checking.{no_question}
use Rattle.ticklab_check.proofs.searching.checked_program.Goals as goal

pub returns-in_ok-report-in-Err : goal.returns-in_ok-report-in-Err
returns-in_ok-report-in-Err c =
    let fault = subst (λ (text : List ℕ). questions_in c.args.program.now text ≡ Err c.in-Err.fault) c.in-Ok.ensures.cases.0
    (c.in-Err.ensures.fault c.in_ok-report-in-Err.ensures.0) in
    no_question c.args.program.now c.in-Err.fault c.requires fault c.in_ok-report-in-Err.ensures.1
