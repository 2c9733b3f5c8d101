use Rattle.ticklab_answers.specs.Explanations.{input_explained, input_taken}
use Rattle.ticklab_answers.proofs.commands.explaining.schedule_explained.Goals as goal

pub returns-in_ok-explained_for-in-Ok : goal.returns-in_ok-explained_for-in-Ok
returns-in_ok-explained_for-in-Ok c = input_taken c.in-Ok.n (rw c.in-Ok.is at c.in_ok-n.ensures) c.in_ok-explained_for-in-Ok.ensures

pub returns-in_ok-wrong-in-Err : goal.returns-in_ok-wrong-in-Err
returns-in_ok-wrong-in-Err c = input_explained c.in-Err.fault (rw c.in-Err.is at c.in_ok-n.ensures) c.in_ok-wrong-in-Err.ensures
