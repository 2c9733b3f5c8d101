use Rattle.ticklab_answers.specs.Labels.{drawn, undrawn}
use Rattle.ticklab_files.proofs.Responding.{settled_with}
use Rattle.ticklab_answers.proofs.commands.labels.labelled.Goals as goal

pub returns-clause-ok : goal.returns-clause-ok
returns-clause-ok c =
    settled_with c.labels_drawn.result c.in_ok-settled.field-0 (λ x h. drawn h) (λ x h. undrawn h)
    c.labels_drawn.ensures.ok c.labels_drawn.ensures.refused c.in_ok-settled.ensures
