use Rattle.std.proofs.Common.{◌≡◌, length}
use Rattle.stamp_calls.specs.Callers.{CallerView}
use Rattle.stamp_calls.proofs.Calling.{Trying}
use Rattle.stamp_calls.proofs.calls.stamp.Given as goal

-- from wherever the first order was found by tries alone, the last one was
abbrev pub invariant-loop : goal.invariant-loop
invariant-loop g l =
    (goal.iterator-loop g).can_next l.iterator' × (goal.iterator-loop g).is_finite l.iterator'
    × (l.caller.pass.table ≡ l.table) × (length l.order ≡ l.table.n)
    × ((old : CallerView) → Trying l.table old l.initial.order l.initial.caller → Trying l.table old l.order l.caller)
