use Rattle.std.proofs.Common.{◌≡◌, List, ℕ, Ok, subst}
use Rattle.language_questions.specs.Lines.{asked_of, questions_in}
use Rattle.ticklab_answers.proofs.commands.explaining.processes_of_program.Goals as goal

pub returns-in-Ok-questions_of : goal.returns-in-Ok-questions_of
returns-in-Ok-questions_of c =
    let questions = c.in-Ok-questions_of._questions in (
      record {
        program = c.args.program.now;
        is = c.requires;
        asked = asked_of questions;
        asks = subst (λ (text : List ℕ). questions_in c.args.program.now text ≡ Ok (asked_of questions)) c.in-Ok.ensures.cases.0 c.in-Ok-questions_of.ensures.questions;
      },
      c.processes.ensures.count,
    )
