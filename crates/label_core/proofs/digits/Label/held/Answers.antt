use Rattle.label_core.proofs.Held.{length_held, held_in_row}
use Rattle.label_core.proofs.digits.Label.held.Goals as goal

pub returns-clause-held : goal.returns-clause-held
returns-clause-held c =
    held_in_row c.self.inside.len c.args.self.now c.row.result.now c.row.ensures.row
    (length_held c.self.inside.len c.self.inside.number c.args.self.now c.self.view_is)
