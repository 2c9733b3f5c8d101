use Rattle.code_machine.proofs.Found.{found}
use Rattle.code_machine.proofs.proc.Proc.told.Goals as goal

pub look-requires : goal.look-requires
look-requires c = (found c.requires.of c.requires.here c.in-Get-Value.is-0).operands

pub look-requires-in-Put-Written : goal.look-requires-in-Put-Written
look-requires-in-Put-Written c = (found c.requires.of c.requires.here c.in-Put-Written.is-0).operands
