use Rattle.std.proofs.Common.{subst}
use Rattle.tick_kinds.proofs.Acceptance.{accepted}
use Rattle.tick_kinds.proofs.program.Program.tree.Goals as goal
use Rattle.tick_kinds.specs.Accepted.{IsAccepted}
use Rattle.base.specs.Plain.{tree_of}

pub returns-clause-accepted : goal.returns-clause-accepted
returns-clause-accepted c = subst IsAccepted c.self.view_is (accepted (tree_of c.self.inside.tree) _ c.self.invariant)
