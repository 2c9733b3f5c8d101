-- The lemmas that other crates may cite: on what the calls make of their caller, and on the tickets
-- that they leave.
use Rattle.std.proofs.Common.{◌≡◌, ◌≢◌, ℕ, ◌<◌, true, None, List, ◌++◌, length, sym, ap, ◌∙◌, subst, arith}
use Rattle.std.specs.Prelude.{slice_index}
use Rattle.std.proofs.lemmas.Bool.{lt-ltb}
use Rattle.ticket_core.specs.Tickets.{stamp_ticket, clear_ticket, ticket_ranks, older_ticket}
use Rattle.ticket_core.proofs.Offered.{length-ticket_ranks, stamp_ticket_same, stamp_ticket_other, ticket_le_greatest}
use Rattle.word_core.specs.Stamps.{Labels, label_at}
use Rattle.word_core.specs.Order.{older_label, label_ranks}
use Rattle.word_core.specs.Packed.{word}
use Rattle.word_core.specs.Agreement.{StandsFor}
use Rattle.word_core.specs.History.{memory_of, IsLegal, ticketed, tickets_of}
use Rattle.word_core.specs.declared.history.Shared.{Shared}
use Rattle.word_core.specs.declared.history.SharedAct.TheVariants.{Won, Clear}
use Rattle.word_core.proofs.Offered.{length-label_ranks, cleared_same}
use Rattle.word_core.proofs.OfferedHistory.{history_stands, next_step, one_step}
use Rattle.stamp_table.specs.Passes.{PassView, by, Appends, memory_seen}
use Rattle.stamp_table.proofs.Offered.{extends_range}
use Rattle.stamp_calls.specs.Callers.{CallerView, tickets_seen, GoesOn}
use Rattle.stamp_calls.specs.Stamps.{Stamps, AddsTriesAndStamp}
use Rattle.stamp_calls.specs.Clears.{Clears}
use Rattle.stamp_calls.proofs.Calling as calling

-- one call after the other
pub goes_on_twice : (old mid new : CallerView) → GoesOn old mid → GoesOn mid new → GoesOn old new
goes_on_twice = calling.goes_on_twice

-- the labels after what a pass has seen stand for the tickets there
pub stands_after : (pass : PassView) (labels : Labels) → labels ≡ (memory_seen pass).labels → StandsFor pass.table.n (tickets_seen pass) labels
stands_after = calling.stands_after

-- the caller's own steps, where it stamped
pub own_of_stamps : (old now : CallerView) (order : Labels) → now.process ≡ old.process → Stamps old order now → AddsTriesAndStamp old order now
own_of_stamps = calling.own_of_stamps

-- what is told of a rank is the ticket's
pub rank_of_ticket : (n : ℕ) (tickets : List ℕ) (order : Labels) (i : ℕ) → StandsFor n tickets order
    → slice_index (label_ranks order) i ≡ slice_index (ticket_ranks tickets) i
rank_of_ticket n tickets order i stands = ap (λ ranks. slice_index ranks i) stands.ranks

-- the tickets after one more step
pub tickets_appended : (old new : PassView) (s : Shared) → (a : Appends old s new)
    → tickets_of old.table.n new.seen ≡ ticketed s.process s.act (tickets_of old.table.n (old.seen ++ a.extends.between))
tickets_appended old new s a =
    ap (tickets_of old.table.n) a.extends.is ∙ (one_step old.table.n old.table.rows (old.seen ++ a.extends.between) s).1

-- a stamp is the ticket object's, after the front that it found
pub tickets_stamped : (old new : CallerView) (order : Labels) → (s : Stamps old order new)
    → tickets_of old.pass.table.n new.pass.seen ≡ stamp_ticket old.process (tickets_of old.pass.table.n s.front)
tickets_stamped old new order s =
    ap (tickets_of old.pass.table.n) s.last
    ∙ (one_step old.pass.table.n old.pass.table.rows s.front (by old.process (Won (word s.found) (word order)))).1

-- a clear is the ticket object's, after what was there before it
pub tickets_cleared : (old new : CallerView) (order : Labels) → (c : Clears old order new)
    → tickets_of old.pass.table.n new.pass.seen ≡ clear_ticket old.process (tickets_of old.pass.table.n (old.pass.seen ++ c.step.extends.between))
tickets_cleared old new order c = tickets_appended old.pass new.pass (by old.process (Clear (word c.found))) c.step

-- so after a clear the caller's process is absent
pub caller_absent : (old new : CallerView) (order : Labels) → Clears old order new → label_at order old.process ≡ None
caller_absent old new order c =
    let n : ℕ = old.pass.table.n in
    let range : old.process < n =
    extends_range n old.pass.table.rows old.pass.held old.pass.seen new.pass.seen (by old.process (Clear (word c.found))) c.step.extends in
    ap (λ (labels : Labels). label_at labels old.process) c.leaves ∙ cleared_same old.process c.found (subst (λ k. old.process < k) (sym c.are.count) range)

-- who stamped last holds the greatest ticket
older_stamped : (p j : ℕ) (tickets : List ℕ) → p < length tickets → j ≢ p → older_ticket (stamp_ticket p tickets) j p ≡ true
older_stamped p j tickets inside other =
    let smaller : slice_index (stamp_ticket p tickets) j < slice_index (stamp_ticket p tickets) p =
    omega (arith, stamp_ticket_other p j tickets other, stamp_ticket_same p tickets inside, ticket_le_greatest tickets j) in
    lt-ltb (slice_index (stamp_ticket p tickets) j) (slice_index (stamp_ticket p tickets) p) smaller

-- so after a stamp all others are older than the caller
pub others_older : (old new : CallerView) (order : Labels) → Stamps old order new
    → StandsFor old.pass.table.n (tickets_of old.pass.table.n new.pass.seen) order
    → (j : ℕ) → j < old.pass.table.n → j ≢ old.process → older_label order j old.process ≡ true
others_older old new order s stands j inside other =
    let n : ℕ = old.pass.table.n in
    let p : ℕ = old.process in
    let won : Shared = by p (Won (word s.found) (word order)) in
    let range : p < n = ((next_step n old.pass.table.rows s.front won).0 (subst (IsLegal n old.pass.table.rows) s.last s.legal)).1.0 in
    let before = history_stands n old.pass.table.rows s.front in
    let front : length (tickets_of n s.front) ≡ n =
    sym (length-ticket_ranks (tickets_of n s.front)) ∙ sym (ap length before.ranks)
    ∙ length-label_ranks (memory_of n old.pass.table.rows s.front).labels ∙ before.are.count in
    stands.older j p inside range ∙ ap (λ tickets. older_ticket tickets j p) (tickets_stamped old new order s)
    ∙ older_stamped p j (tickets_of n s.front) (subst (λ k. p < k) (sym front) range) other
