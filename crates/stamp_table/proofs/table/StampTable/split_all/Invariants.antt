use Rattle.std.proofs.Common.{◌≡◌, ◌<◌, ◌≤◌, ℕ, true, slice_get, slice_set, Some, vec_items, vec_len, vec_capacity}
use Rattle.stamp_table.specs.Passes.{Holds, none_held, part}
use Rattle.stamp_table.proofs.table.StampTable.split_all.Given as goal

-- the first processes have passes, and the others are held by the rest
abbrev pub invariant-loop-p : goal.invariant-loop-p
invariant-loop-p l =
    (vec_len l.passes ≡ l.p) × (l.self.n ≤ vec_capacity l.passes)
    × (l.rest.table ≡ l.fn.pass.table) × (l.rest.seen ≡ l.fn.pass.seen)
    × ((q : ℕ) → l.p ≤ q → q < l.self.n → Holds l.rest.held q)
    × ((q : ℕ) → q < l.p → slice_get (vec_items l.passes) q ≡ Some (part l.fn.pass (slice_set none_held q true)))
