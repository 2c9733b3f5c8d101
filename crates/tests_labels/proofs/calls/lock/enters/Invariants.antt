use Rattle.std.proofs.Common.{◌≡◌}
use Rattle.tests_labels.proofs.calls.lock.enters.Given as goal

-- the caller is of its table, and steps as the same process
abbrev pub invariant-loop : goal.invariant-loop
invariant-loop g l =
    (goal.iterator-loop g).can_next l.iterator' × (goal.iterator-loop g).is_finite l.iterator'
    × (l.caller.pass.table ≡ l.initial.caller.pass.table) × (l.caller.process ≡ l.initial.caller.process)
