use Rattle.std.proofs.Common.{arith}
use Rattle.tick_kinds.proofs.Counting.{most_variables}
use Rattle.tick_kinds.proofs.program.Program.variables.Goals as goal

pub overflow_cast-result : goal.overflow_cast-result
overflow_cast-result c = omega (arith, c.len.ensures, most_variables c.self.inside.tree _ c.self.invariant)

pub returns-clause-most : goal.returns-clause-most
returns-clause-most c = omega (arith, c.len.ensures, most_variables c.self.inside.tree _ c.self.invariant)
