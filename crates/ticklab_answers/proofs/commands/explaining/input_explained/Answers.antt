use Rattle.ticklab_answers.specs.Explanations.{explained, taken}
use Rattle.ticklab_answers.proofs.commands.explaining.input_explained.Goals as goal

pub returns-in_ok-fine-in-Ok : goal.returns-in_ok-fine-in-Ok
returns-in_ok-fine-in-Ok c = taken c.in-Ok._n (rw c.in-Ok.is at c.in_ok-_n.ensures) c.in_ok-fine-in-Ok.ensures

pub returns-in_ok-wrong-in-Err : goal.returns-in_ok-wrong-in-Err
returns-in_ok-wrong-in-Err c = explained c.in-Err.fault (rw c.in-Err.is at c.in_ok-_n.ensures) c.in_ok-wrong-in-Err.ensures
