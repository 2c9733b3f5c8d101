use Rattle.label_core.proofs.Held.{numbered}
use Rattle.label_core.proofs.digits.Label.numbered.Goals as goal

pub returns-clause-numbered : goal.returns-clause-numbered
returns-clause-numbered c = numbered c.args.len c.args.number c.requires.small
