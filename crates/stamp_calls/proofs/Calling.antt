-- What the calls make of their caller, from the steps of its pass.
-- The idea. `Trying` says what `stamp` keeps while it tries: its caller went on by tries alone, and it has the order that
-- it found last. It begins with the first look (`first_try`), and a try that is lost keeps it (`next_try`). With the try
-- that is won it becomes `Stamps` (`last_try`), since that exchange found the labels that it was given (`won_found`).
-- `own_of_stamps` tells the steps of the caller alone. By `written_stands` a register has what was written there.
-- Read `Trying` first, then `last_try`.
use Rattle.std.proofs.Common.{◌≡◌, ◌<◌, ◌≤◌, ℕ, List, [], ◌∷◌, ◌++◌, refl, sym, ap, ◌∙◌, subst, length, append_assoc, arith}
use Rattle.std.specs.Prelude.{All, slice_index, slice_index_or, slice_set}
use Rattle.std.proofs.lemmas.List.{get_or-set_same}
use Rattle.std.proofs.lemmas.List.Elements.{All-append, All-cons, All-nil}
use Rattle.word_core.specs.Stamps.{Labels, stamped}
use Rattle.word_core.specs.Packed.{AreLabels, word}
use Rattle.word_core.specs.Agreement.{StandsFor}
use Rattle.word_core.specs.History.{Memory, memory_of, AreRows, IsLegal, register_at, register_set}
use Rattle.word_core.specs.declared.history.Shared.{Shared}
use Rattle.word_core.specs.declared.history.SharedAct.{SharedAct}
use Rattle.word_core.specs.declared.history.SharedAct.TheVariants.{Load, Won, Lost, Write}
use Rattle.word_core.proofs.OfferedHistory.{history_stands, history_labels, history_rows, labels_of_word, next_step, one_step}
use Rattle.stamp_table.specs.Passes.{TableView, PassView, Holds, by, mine, Extends, Appends, memory_seen}
use Rattle.stamp_table.proofs.Offered.{mine-snoc_own, extends_front, starts_through}
use Rattle.stamp_calls.specs.Callers.{CallerView, own_steps, tickets_seen, GoesOn}
use Rattle.stamp_calls.specs.Stamps.{IsTryAct, IsTry, Stamps, AddsTriesAndStamp}

-- the labels after what a pass has seen stand for the tickets there
pub stands_after : (pass : PassView) (labels : Labels) → labels ≡ (memory_seen pass).labels → StandsFor pass.table.n (tickets_seen pass) labels
stands_after pass labels is =
    subst (StandsFor pass.table.n (tickets_seen pass)) (sym is) (history_stands pass.table.n pass.table.rows pass.seen)

pub goes_on_twice : (old mid new : CallerView) → GoesOn old mid → GoesOn mid new → GoesOn old new
goes_on_twice old mid new a b = record {
  table = b.table ∙ a.table;
  held = b.held ∙ a.held;
  process = b.process ∙ a.process;
  holds = b.holds;
  begins = starts_through new.pass.seen mid.pass.seen old.pass.seen b.begins a.begins;
  others = λ q holds other.
      b.others q (subst (λ h. Holds h q) (sym a.held) holds) (λ is. other (is ∙ a.process)) ∙ a.others q holds other;
  legal = subst (λ (t : TableView). IsLegal t.n t.rows new.pass.seen) a.table b.legal;
}

-- what a process wrote stands in its register
pub written_stands : (old new : PassView) (p r v : ℕ) → r < old.table.rows → Appends old (by p (Write r v)) new → register_at (memory_seen new).rows r p ≡ v
written_stands old new p r v inside step =
    let n : ℕ = old.table.n in
    let rows : ℕ = old.table.rows in
    let e = step.extends in
    let front : List Shared = old.seen ++ e.between in
    let may = (next_step n rows front (by p (Write r v))).0 (subst (IsLegal n rows) e.is e.legal) in
    let before : AreRows n rows (memory_of n rows front).rows = history_rows n rows front may.0 in
    let m : List (List ℕ) = (memory_of n rows front).rows in
    let here : r < length m = omega (arith, inside, before.rows_count) in
    let wide : p < length (slice_index_or m r []) = omega (arith, may.1.0, (before.each r [] here).count) in
    let after_rows : (memory_seen new).rows ≡ register_set m r p v =
    ap (λ (t : TableView). (memory_of t.n t.rows new.seen).rows) step.table ∙ ap (λ h. (memory_of n rows h).rows) e.is
    ∙ ap (λ (x : Memory). x.rows) (one_step n rows front (by p (Write r v))).0
    in
    ap (λ x. register_at x r p) after_rows
    ∙ ap (λ row. slice_index row p) (get_or-set_same m r (slice_set (slice_index_or m r []) p v) [] here)
    ∙ get_or-set_same (slice_index_or m r []) p v 0 wide

-- what `stamp` keeps while it tries: its caller went on by tries alone, and it has the order that it
-- found last
pub record Trying (table : TableView) (old : CallerView) (order : Labels) (now : CallerView) : Type 0 where
  pub here : now.pass.table ≡ table
  pub are : AreLabels table.n order
  pub goes : GoesOn old now
  pub tries : List Shared
  pub each : All (IsTry old.process) tries
  pub tried : own_steps now ≡ own_steps old ++ tries

one_try : (p : ℕ) (act : SharedAct) → IsTryAct act → All (IsTry p) (by p act ∷ [])
one_try p act is = All-cons (IsTry p) (by p act) [] (record { process = refl; act = is }) (All-nil (IsTry p))

-- the first look
pub first_try : (table : TableView) (old now : CallerView) (order : Labels) → old.pass.table ≡ table → StandsFor table.n (tickets_seen now.pass) order
    → GoesOn old now → own_steps now ≡ own_steps old ++ by old.process (Load (word order)) ∷ [] → Trying table old order now
first_try table old now order here stands goes own = record {
  here = goes.table ∙ here;
  are = stands.are;
  goes = goes;
  tries = by old.process (Load (word order)) ∷ [];
  each = one_try old.process (Load (word order)) tt;
  tried = own;
}

-- a try that is lost
pub next_try : (table : TableView) (old mid now : CallerView) (given found : Labels) → Trying table old given mid
    → StandsFor table.n (tickets_seen now.pass) found → GoesOn mid now
    → own_steps now ≡ own_steps mid ++ by mid.process (Lost (word given) (word found)) ∷ [] → Trying table old found now
next_try table old mid now given found t stands goes own =
    let lost : Shared = by old.process (Lost (word given) (word found)) in
    let own_lost : own_steps now ≡ own_steps mid ++ lost ∷ [] =
    subst (λ p. own_steps now ≡ own_steps mid ++ by p (Lost (word given) (word found)) ∷ []) t.goes.process own in
    record {
      here = goes.table ∙ t.here;
      are = stands.are;
      goes = goes_on_twice old mid now t.goes goes;
      tries = t.tries ++ lost ∷ [];
      each = All-append (IsTry old.process) t.tries (lost ∷ []) t.each (one_try old.process (Lost (word given) (word found)) tt);
      tried = own_lost ∙ ap (λ steps. steps ++ lost ∷ []) t.tried ∙ append_assoc (own_steps old) t.tries (lost ∷ []);
    }

-- an exchange that is won found the labels that it was given
won_found : (n rows : ℕ) → n ≤ 6 → (front : List Shared) (p : ℕ) (old new : Labels) → AreLabels n old → IsLegal n rows (front ++ by p (Won (word old) (word new)) ∷ [])
    → old ≡ (memory_of n rows front).labels
won_found n rows few front p old new are legal =
    labels_of_word n few old (memory_of n rows front).labels are (history_labels n rows front)
    ((next_step n rows front (by p (Won (word old) (word new)))).0 legal).1.1.0

-- the try that is won
pub last_try : (table : TableView) (old mid now : CallerView) (given order : Labels) → old.pass.table ≡ table → table.n ≤ 6 → Trying table old given mid
    → order ≡ stamped mid.process given → Appends mid.pass (by mid.process (Won (word given) (word order))) now.pass
    → Stamps old order now
last_try table old mid now given order here few t stamps step =
    let goes = t.goes in
    let n : ℕ = old.pass.table.n in
    let rows : ℕ = old.pass.table.rows in
    let p : ℕ = old.process in
    let won : Shared = by p (Won (word given) (word order)) in
    let e : Extends n rows mid.pass.held mid.pass.seen won now.pass.seen =
    subst (λ k. Extends n rows mid.pass.held mid.pass.seen (by k (Won (word given) (word order))) now.pass.seen) goes.process
    (subst (λ (z : TableView). Extends z.n z.rows mid.pass.held mid.pass.seen (by mid.process (Won (word given) (word order))) now.pass.seen) goes.table step.extends) in
    let front : List Shared = mid.pass.seen ++ e.between in
    let before : (q : ℕ) → Holds mid.pass.held q → mine q front ≡ mine q mid.pass.seen =
    λ q holds. extends_front n rows mid.pass.held mid.pass.seen now.pass.seen won q holds e in
    let own_mid : mine p mid.pass.seen ≡ own_steps old ++ t.tries = ap (λ k. mine k mid.pass.seen) (sym goes.process) ∙ t.tried in
    record {
      front = front;
      begins = starts_through front mid.pass.seen old.pass.seen (e.between, refl) goes.begins;
      tries = t.tries;
      each = t.each;
      tried = before p (subst (Holds mid.pass.held) goes.process goes.holds) ∙ own_mid;
      others = λ q holds other. before q (subst (λ h. Holds h q) (sym goes.held) holds) ∙ goes.others q holds other;
      found = given;
      finds = won_found n rows (subst (λ (z : TableView). z.n ≤ 6) (sym here) few) front p given order
          (subst (λ (z : TableView). AreLabels z.n given) (sym here) t.are) (subst (IsLegal n rows) e.is e.legal);
      stamps = stamps ∙ ap (λ k. stamped k given) goes.process;
      last = e.is;
      legal = e.legal;
    }

-- the caller's own steps, where it stamped
pub own_of_stamps : (old now : CallerView) (order : Labels) → now.process ≡ old.process → Stamps old order now → AddsTriesAndStamp old order now
own_of_stamps old now order same s =
    let p : ℕ = old.process in
    let won : Shared = by p (Won (word s.found) (word order)) in
    record {
      tries = s.tries;
      each = s.each;
      found = s.found;
      stamps = s.stamps;
      own = ap (λ k. mine k now.pass.seen) same ∙ ap (mine p) s.last ∙ mine-snoc_own p s.front won refl
          ∙ ap (λ steps. steps ++ won ∷ []) s.tried ∙ append_assoc (own_steps old) s.tries (won ∷ []);
    }
