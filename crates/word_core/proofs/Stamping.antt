-- Labels that agree with whole-number tickets keep doing so through each stamp and each clear
-- (`agreement_law`), so after any of these moves from the start they stand for the tickets (`moves_law`).
--
-- The idea. The new label dominates each of the others that are present as the new ticket is above each of
-- the others (`stamp_fits`), and nothing changes among the others (`set_ordered` of `Setting.antt`). The
-- difficulty is that there is a label which dominates the others: `next_law` wants one of them to be
-- greatest, and `can_choose` (`Choosing.antt`) finds it by the greatest ticket. Labels that agree stand for
-- the tickets (`stands_for`): ranks count the same comparisons, and equal labels of two that are present
-- would be equal tickets. Read `stamped_kept` first.
use Rattle.std.proofs.Common.{◌≡◌, ◌≢◌, ℕ, zero, suc, ◌+◌, ◌-◌, ◌<◌, true, false, ltb, Option, None, Some, List, [], ◌∷◌, length, refl, sym, ap, ◌∙◌, subst, arith, ⊎_elim, length-set, get_or-set_other}
use Rattle.std.specs.Prelude.{All, IfSome, slice_index}
use Rattle.std.proofs.lemmas.Bool.{cases_lt, lt-ltb, le-ltb, ltb-true, ltb-false}
use Rattle.std.proofs.lemmas.List.{length-replicate, get_or-replicate, set_past}
use Rattle.std.proofs.lemmas.List.Elements.{All-head, All-tail, All-set, All-replicate}
use Rattle.label_core.specs.Labels.{IsLabel, dominates, next}
use Rattle.label_core.specs.Laws.{IsAbove}
use Rattle.label_core.proofs.Offered.{next_law}
use Rattle.ticket_core.specs.Tickets.{start_tickets, greatest_ticket, stamp_ticket, clear_ticket, tickets_below, ticket_ranks, moved_ticket, tickets_moved}
use Rattle.ticket_core.specs.declared.moves.Move.{Move}
use Rattle.ticket_core.specs.declared.moves.Move.TheVariants.{Stamp, Clear}
use Rattle.ticket_core.proofs.Offered.{ticket_le_greatest}
use Rattle.word_core.specs.Stamps.{Labels, start_labels, label_at, is_present, present, stamped, cleared, moved, labels_moved}
use Rattle.word_core.specs.Packed.{AreLabels}
use Rattle.word_core.specs.Order.{OrderedBy, IsOrdered, above, labels_below, label_ranks}
use Rattle.word_core.specs.Agreement.{Agrees, StandsFor}
use Rattle.word_core.specs.Laws.{AgreementLaw, MovesLaw}
use Rattle.word_core.proofs.Counting.{count_same, map_same}
use Rattle.word_core.proofs.Setting.{Fits, above_self, above_one_way, set_ordered, cleared_ordered}
use Rattle.word_core.proofs.Choosing.{can_choose}

start_agrees : (n : ℕ) → Agrees n (start_tickets n) (start_labels n)
start_agrees n =
    let none : Option (List ℕ) = None in
    let len : length (start_labels n) ≡ n = length-replicate n none in
    let labels : (i : ℕ) → i < length (start_labels n) → label_at (start_labels n) i ≡ none = λ i inside. get_or-replicate n i none none (omega (arith, len)) in
    let tickets : (i : ℕ) → i < length (start_labels n) → slice_index (start_tickets n) i ≡ 0 = λ i inside. get_or-replicate n i 0 0 (omega (arith, len)) in
    record {
      are = record { count = len; each = All-replicate (λ label. IfSome label (IsLabel (n - 1))) n none tt };
      by = record {
        count = length-replicate n 0 ∙ sym len;
        present = λ i in_i. ap is_present (labels i in_i) ∙ sym (le-ltb 0 (slice_index (start_tickets n) i) (omega (arith, tickets i in_i)));
        apart = λ i j in_i in_j other same. tickets i in_i;
        over = λ i j in_i in_j.
            ap (λ label. above label (label_at (start_labels n) j)) (labels i in_i)
            ∙ sym (le-ltb (slice_index (start_tickets n) j) (slice_index (start_tickets n) i) (omega (arith, tickets i in_i)));
      };
    }

-- a label that dominates each of those that are present is above each process
above_each : (labels : Labels) (new : List ℕ) → All (λ other. dominates new other ≡ true) (present labels) → (j : ℕ) → above (Some new) (label_at labels j) ≡ true
above_each [] new all j = refl
above_each (None ∷ labels) new all zero = refl
above_each (None ∷ labels) new all (suc j) = above_each labels new all j
above_each (Some label ∷ labels) new all zero = All-head (λ other. dominates new other ≡ true) label (present labels) all
above_each (Some label ∷ labels) new all (suc j) = above_each labels new (All-tail (λ other. dominates new other ≡ true) label (present labels) all) j

-- the label that process `p` takes next
abbrev next_of : ℕ → Labels → List ℕ
next_of p labels = next (length labels) (present (cleared p labels))

-- with the number above all others
stamp_fits : (p : ℕ) (labels : Labels) (numbers : List ℕ) → IsAbove (length labels - 1) (present (cleared p labels)) (next_of p labels)
    → Fits p labels numbers (Some (next_of p labels)) (1 + greatest_ticket numbers)
stamp_fits p labels numbers new =
    let none : Option (List ℕ) = None in
    let ticket : ℕ = 1 + greatest_ticket numbers in
    let below : (j : ℕ) → slice_index numbers j < ticket = λ j. omega (arith, ticket_le_greatest numbers j) in
    let over : (j : ℕ) → j ≢ p → above (Some (next_of p labels)) (label_at labels j) ≡ true = λ j other.
    ap (above (Some (next_of p labels))) (sym (get_or-set_other labels p j none none other)) ∙ above_each (cleared p labels) (next_of p labels) new.dominates j in
    record {
      present = sym (lt-ltb 0 ticket (omega arith));
      apart = λ j in_j other same. absurd (omega (arith, same, below j));
      over = λ j in_j other. over j other ∙ sym (lt-ltb (slice_index numbers j) ticket (below j));
      under = λ j in_j other. above_one_way (Some (next_of p labels)) (label_at labels j) (over j other) ∙ sym (le-ltb ticket (slice_index numbers j) (omega (arith, below j)));
    }

-- what is to be kept, for the number of processes that there are labels of
record Kept (labels : Labels) (numbers : List ℕ) : Type 0 where
  are : AreLabels (length labels) labels
  by : OrderedBy labels numbers

stamped_kept : (p : ℕ) (labels : Labels) (numbers : List ℕ) → Kept labels numbers → p < length labels → Agrees (length labels) (stamp_ticket p numbers) (stamped p labels)
stamped_kept p labels numbers kept in_p =
    let others : List (List ℕ) = present (cleared p labels) in
    let new : IsAbove (length labels - 1) others (next_of p labels) = next_law (length labels) others (can_choose (length labels) p labels numbers kept.are kept.by in_p) in
    let Fit : Option (List ℕ) → Type 0 = λ label. IfSome label (IsLabel (length labels - 1)) in
    record {
      are = record { count = length-set labels p (Some (next_of p labels)); each = All-set Fit labels p (Some (next_of p labels)) new.is kept.are.each };
      by = set_ordered p labels numbers (Some (next_of p labels)) (1 + greatest_ticket numbers) kept.by in_p (stamp_fits p labels numbers new);
    }

-- a stamp keeps the agreement, of any process and for every number of processes
stamped_agrees : (n p : ℕ) (tickets : List ℕ) (labels : Labels) → Agrees n tickets labels → Agrees n (stamp_ticket p tickets) (stamped p labels)
stamped_agrees n p tickets labels h =
    ⊎_elim
    (λ inside.
    let kept : Kept labels tickets = record { are = subst (λ k. AreLabels k labels) (sym h.are.count) h.are; by = h.by } in
    subst (λ k. Agrees k (stamp_ticket p tickets) (stamped p labels)) h.are.count (stamped_kept p labels tickets kept inside))
    (λ past.
    subst (λ kept. Agrees n kept (stamped p labels)) (sym (set_past tickets p (1 + greatest_ticket tickets) (omega (arith, h.by.count))))
    (subst (λ kept. Agrees n tickets kept) (sym (set_past labels p (Some (next_of p labels)) past)) h))
    (cases_lt p (length labels))

pub cleared_are : (n p : ℕ) (labels : Labels) → AreLabels n labels → AreLabels n (cleared p labels)
cleared_are n p labels are =
    let none : Option (List ℕ) = None in
    record {
      count = length-set labels p none ∙ are.count;
      each = All-set (λ label. IfSome label (IsLabel (n - 1))) labels p none tt are.each;
    }

-- so does a clear
cleared_agrees : (n p : ℕ) (tickets : List ℕ) (labels : Labels) → Agrees n tickets labels → Agrees n (clear_ticket p tickets) (cleared p labels)
cleared_agrees n p tickets labels h =
    record { are = cleared_are n p labels h.are; by = cleared_ordered p labels tickets h.by }

-- how many each process is above is how many tickets are below its own
ranks_same : (labels : Labels) (numbers : List ℕ) → OrderedBy labels numbers → label_ranks labels ≡ ticket_ranks numbers
ranks_same labels numbers by =
    let none : Option (List ℕ) = None in
    map_same (labels_below labels) (tickets_below numbers) labels numbers none 0 (sym by.count) (λ i in_i.
    count_same (above (label_at labels i)) (λ other. ltb other (slice_index numbers i)) labels numbers none 0 (sym by.count)
    (λ k in_k. by.over i k in_i in_k))

stands_for : (n : ℕ) (tickets : List ℕ) (labels : Labels) → Agrees n tickets labels → StandsFor n tickets labels
stands_for n tickets labels h =
    let within : (i : ℕ) → i < n → i < length labels = λ i in_i. omega (arith, h.are.count) in
    record {
      are = h.are;
      ordered = (tickets, h.by);
      ranks = ranks_same labels tickets h.by;
      older = λ i j in_i in_j. h.by.over j i (within j in_j) (within i in_i);
      held = λ i in_i. h.by.present i (within i in_i);
      distinct = λ i j in_i in_j other here same.
          let up : ltb (slice_index tickets j) (slice_index tickets i) ≡ false =
          sym (h.by.over i j (within i in_i) (within j in_j)) ∙ ap (above (label_at labels i)) (sym same) ∙ above_self (label_at labels i) in
          let down : ltb (slice_index tickets i) (slice_index tickets j) ≡ false =
          sym (h.by.over j i (within j in_j) (within i in_i)) ∙ ap (above (label_at labels j)) same ∙ above_self (label_at labels j) in
          let equal : slice_index tickets i ≡ slice_index tickets j = omega (arith, ltb-false (slice_index tickets j) (slice_index tickets i) up, ltb-false (slice_index tickets i) (slice_index tickets j) down) in
          let none : slice_index tickets i ≡ 0 = h.by.apart i j (within i in_i) (within j in_j) other equal in
          omega (arith, none, ltb-true 0 (slice_index tickets i) (sym (h.by.present i (within i in_i)) ∙ here));
    }

pub agreement_law : AgreementLaw
agreement_law = record { start = start_agrees; stands = stands_for; stamped = stamped_agrees; cleared = cleared_agrees }

move_agrees : (n : ℕ) (move : Move) (tickets : List ℕ) (labels : Labels) → Agrees n tickets labels → Agrees n (moved_ticket move tickets) (moved move labels)
move_agrees n (Stamp p) tickets labels h = stamped_agrees n p tickets labels h
move_agrees n (Clear p) tickets labels h = cleared_agrees n p tickets labels h

moves_agree : (n : ℕ) (moves : List Move) (tickets : List ℕ) (labels : Labels) → Agrees n tickets labels
    → Agrees n (tickets_moved tickets moves) (labels_moved labels moves)
moves_agree n [] tickets labels h = h
moves_agree n (move ∷ moves) tickets labels h = moves_agree n moves (moved_ticket move tickets) (moved move labels) (move_agrees n move tickets labels h)

pub moves_law : MovesLaw
moves_law n moves =
    stands_for n (tickets_moved (start_tickets n) moves) (labels_moved (start_labels n) moves)
    (moves_agree n moves (start_tickets n) (start_labels n) (start_agrees n))

-- ordered labels stay so
pub stamped_are : (n p : ℕ) (labels : Labels) → AreLabels n labels → IsOrdered labels → p < length labels → AreLabels n (stamped p labels)
stamped_are n p labels are ordered in_p = (stamped_agrees n p ordered.0 labels (record { are = are; by = ordered.1 })).are

pub stamped_ordered : (n p : ℕ) (labels : Labels) → AreLabels n labels → IsOrdered labels → p < length labels → IsOrdered (stamped p labels)
stamped_ordered n p labels are ordered in_p = (stamp_ticket p ordered.0, (stamped_agrees n p ordered.0 labels (record { are = are; by = ordered.1 })).by)

pub cleared_in_order : (p : ℕ) (labels : Labels) → IsOrdered labels → IsOrdered (cleared p labels)
cleared_in_order p labels ordered = (clear_ticket p ordered.0, cleared_ordered p labels ordered.0 ordered.1)
