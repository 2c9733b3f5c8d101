use Rattle.std.proofs.Common.{◌≡◌}
use Rattle.tests_labels.proofs.calls.lock.counts.Given as goal

-- the caller is of its table, and steps as the same process
abbrev pub invariant-loop : goal.invariant-loop
invariant-loop g l = (l.caller.pass.table ≡ l.table) × (l.caller.process ≡ l.p)
