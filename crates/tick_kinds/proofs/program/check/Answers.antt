use Rattle.tick_kinds.proofs.Acceptance.{accepted, refused, memory_alone}
use Rattle.tick_kinds.proofs.program.check.Goals as goal
use Rattle.base.specs.Plain.{tree_of}

pub returns-in-Ok-clause-accepted : goal.returns-in-Ok-clause-accepted
returns-in-Ok-clause-accepted c = accepted (tree_of c.args.tree) _ c.in-Ok.ensures

pub returns-in-Err-clause-refused : goal.returns-in-Err-clause-refused
returns-in-Err-clause-refused c = refused (tree_of c.args.tree) _ c.in-Err.ensures

pub returns-in-Err-clause-accepts : goal.returns-in-Err-clause-accepts
returns-in-Err-clause-accepts c = memory_alone (tree_of c.args.tree) _ c.in-Err.ensures
