use Rattle.code_machine.proofs.Runs.{never_stuck_law}
use Rattle.code_machine.proofs.laws.law_never_stuck.Goals as goal

pub returns : goal.returns
returns c = never_stuck_law
