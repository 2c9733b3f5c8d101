use Rattle.std.proofs.Common.{arith}
use Rattle.tick_kinds.proofs.Counting.{most_scans}
use Rattle.tick_kinds.proofs.program.Program.scans.Goals as goal

pub overflow_cast-result : goal.overflow_cast-result
overflow_cast-result c = omega (arith, c.len.ensures, most_scans c.self.inside.tree _ c.self.invariant)

pub returns-clause-most : goal.returns-clause-most
returns-clause-most c = omega (arith, c.len.ensures, most_scans c.self.inside.tree _ c.self.invariant)
