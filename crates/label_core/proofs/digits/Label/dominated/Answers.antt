use Rattle.label_core.proofs.Held.{number_in_table}
use Rattle.label_core.proofs.digits.Label.dominated.Goals as goal

pub bounds-self-inside : goal.bounds-self-inside
bounds-self-inside c = number_in_table c.self.inside.len c.self.inside.number c.self.invariant.0 c.self.invariant.1
