use Rattle.tick_syntax.proofs.Decided.{one_program, never_neither}
use Rattle.tick_syntax.proofs.laws.law_reading.Goals as goal

pub returns-clause-one_program : goal.returns-clause-one_program
returns-clause-one_program c = one_program

pub returns-clause-never_neither : goal.returns-clause-never_neither
returns-clause-never_neither c = never_neither
