use Rattle.std.proofs.Common.{◌≡◌, replicate, map}
use Rattle.base.proofs.registers.Registers.new.Given as goal

-- the rows so far
abbrev pub invariant-loop : goal.invariant-loop
invariant-loop l = map (λ row. row.items) l.all.items ≡ replicate l.counter (replicate l.processes 0)
