use Rattle.std.proofs.Common.{refl}
use Rattle.code_machine.proofs.Found.{found}
use Rattle.code_machine.proofs.proc.Proc.finds.Goals as goal

pub returns : goal.returns
returns c = found c.requires.of c.requires.here refl
