use Rattle.std.proofs.Common.{ap, ◌∙◌, map}
use Rattle.code_machine.specs.Machine.{observables}
use Rattle.code_machine.proofs.Steps.{statuses_held}
use Rattle.code_machine.proofs.machine.CodeMachine.into_outcome.Goals as goal

pub returns : goal.returns
returns c =
    let statuses =
    c.in_ok-statuses.ensures ∙ ap (map (λ one. one.process.status)) c.deref.ensures.value
    ∙ statuses_held c.self.inside.processes.items in
    (λ i. record { events = c.self.inside.events.items; rows = c.into_rows.ensures i; statuses = statuses i })
    ∙ ap (λ run. observables run.state) c.self.view_is
