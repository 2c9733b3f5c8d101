use Rattle.std.proofs.Common.{◌∙◌, ap}
use Rattle.ticklab_answers.proofs.commands.explaining.processes_of_code.Goals as goal

pub returns-in-Ok : goal.returns-in-Ok
returns-in-Ok c =
    let is = rw c.in-Ok.is at c.in_ok-code.ensures in
    (is.0, c.processes.ensures.count ∙ ap (λ sizes. sizes.processes) c.sizes.ensures.sizes ∙ ap (λ code. code.sizes.processes) is.1)
