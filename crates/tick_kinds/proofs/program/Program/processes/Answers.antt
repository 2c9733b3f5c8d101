use Rattle.std.proofs.Common.{arith}
use Rattle.tick_kinds.proofs.Counting.{some_process, most_processes}
use Rattle.tick_kinds.proofs.program.Program.processes.Goals as goal

pub overflow_cast-result : goal.overflow_cast-result
overflow_cast-result c = omega (arith, most_processes c.self.inside.tree _ c.self.invariant)

pub returns-clause-some : goal.returns-clause-some
returns-clause-some c = some_process c.self.inside.tree _ c.self.invariant

pub returns-clause-most : goal.returns-clause-most
returns-clause-most c = most_processes c.self.inside.tree _ c.self.invariant
