use Rattle.std.proofs.Common.{length}
use Rattle.label_core.specs.Labels.{label_number}
use Rattle.label_core.specs.prover.Numbers.{number_fits}
use Rattle.label_core.proofs.Held.{number_in_table}
use Rattle.label_core.proofs.digits.Label.place.Goals as goal

pub returns-clause-small : goal.returns-clause-small
returns-clause-small c =
    let label = c.args.self.now in
    rw c.number.ensures.number (number_in_table (length label) (label_number label) c.number.ensures.digits.few (number_fits label c.number.ensures.digits.small))
