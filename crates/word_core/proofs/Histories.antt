-- Facts of histories, each by induction from the front with what is shared as accumulator.
-- The idea. A step at the end comes after all others (`memory_after-snoc`, `tickets_from-snoc`, `legal_from-snoc`). By
-- cases of one act, labels and tickets go on to agree (`acted_agrees`), and register rows keep their form (`acted_rows`).
-- So both hold after each history. `history_stands`, `word_stands`, `beginning`, `next_step`, `one_step` and `history_rows`
-- are the laws.
-- Read `acted_agrees` first, then `history_stands`.
use Rattle.std.proofs.Common.{◌≡◌, ℕ, ◌^◌, ◌<◌, List, [], ◌∷◌, ◌++◌, refl, sym, ◌∙◌, subst, arith, length-set}
use Rattle.std.specs.Prelude.{replicate, slice_set, slice_index_or}
use Rattle.std.proofs.lemmas.List.Elements.{All-get_or, All-set, All-replicate}
use Rattle.std.proofs.lemmas.List.{length-replicate}
use Rattle.ticket_core.specs.Tickets.{start_tickets}
use Rattle.word_core.specs.Agreement.{Agrees, StandsFor}
use Rattle.word_core.specs.History.{Memory, start_memory, register_set, after, acted, memory_after, memory_of, IsRow, AreRows, MayFollow, IsLegalFrom, ticketed, tickets_from, tickets_of}
use Rattle.word_core.specs.HistoryLaws.{HistoryStandsLaw, WordStandsLaw, BeginningLaw, NextStepLaw, OneStepLaw, RowsLaw}
use Rattle.word_core.specs.declared.history.Shared.{Shared}
use Rattle.word_core.specs.declared.history.SharedAct.{SharedAct}
use Rattle.word_core.specs.declared.history.SharedAct.TheVariants.{Load, Won, Lost, Read, Write, Clear}
use Rattle.word_core.proofs.Offered.{agreement_law, distinct_law}

pub memory_after-snoc : (m : Memory) (steps : List Shared) (s : Shared) → memory_after m (steps ++ s ∷ []) ≡ after (memory_after m steps) s
memory_after-snoc m [] s = refl
memory_after-snoc m (t ∷ steps) s = memory_after-snoc (after m t) steps s

tickets_from-snoc : (tickets : List ℕ) (steps : List Shared) (s : Shared)
    → tickets_from tickets (steps ++ s ∷ []) ≡ ticketed s.process s.act (tickets_from tickets steps)
tickets_from-snoc tickets [] s = refl
tickets_from-snoc tickets (t ∷ steps) s = tickets_from-snoc (ticketed t.process t.act tickets) steps s

legal_from-front : (n rows : ℕ) (m : Memory) (front rest : List Shared) → IsLegalFrom n rows m (front ++ rest) → IsLegalFrom n rows m front
legal_from-front n rows m [] rest legal = tt
legal_from-front n rows m (s ∷ front) rest legal = (legal.0, legal_from-front n rows (after m s) front rest legal.1)

legal_from-snoc : (n rows : ℕ) (m : Memory) (steps : List Shared) (s : Shared) → IsLegalFrom n rows m steps
    → MayFollow n rows (memory_after m steps) s → IsLegalFrom n rows m (steps ++ s ∷ [])
legal_from-snoc n rows m [] s legal may = (may, tt)
legal_from-snoc n rows m (t ∷ steps) s legal may = (legal.0, legal_from-snoc n rows (after m t) steps s legal.1 may)

legal_from-last : (n rows : ℕ) (m : Memory) (steps : List Shared) (s : Shared) → IsLegalFrom n rows m (steps ++ s ∷ [])
    → MayFollow n rows (memory_after m steps) s
legal_from-last n rows m [] s legal = legal.0
legal_from-last n rows m (t ∷ steps) s legal = legal_from-last n rows (after m t) steps s legal.1

-- one act keeps the agreement of labels and tickets
acted_agrees : (n p : ℕ) (act : SharedAct) (tickets : List ℕ) (m : Memory) → Agrees n tickets m.labels
    → Agrees n (ticketed p act tickets) (acted p act m).labels
acted_agrees n p (Load found) tickets m h = h
acted_agrees n p (Won old new) tickets m h = agreement_law.stamped n p tickets m.labels h
acted_agrees n p (Lost old found) tickets m h = h
acted_agrees n p (Read r i v) tickets m h = h
acted_agrees n p (Write r v) tickets m h = h
acted_agrees n p (Clear old) tickets m h = agreement_law.cleared n p tickets m.labels h

agrees_from : (n : ℕ) (steps : List Shared) (tickets : List ℕ) (m : Memory) → Agrees n tickets m.labels
    → Agrees n (tickets_from tickets steps) (memory_after m steps).labels
agrees_from n [] tickets m h = h
agrees_from n (s ∷ steps) tickets m h =
    agrees_from n steps (ticketed s.process s.act tickets) (after m s) (acted_agrees n s.process s.act tickets m h)

history_agrees : (n rows : ℕ) (history : List Shared) → Agrees n (tickets_of n history) (memory_of n rows history).labels
history_agrees n rows history = agrees_from n history (start_tickets n) (start_memory n rows) (agreement_law.start n)

pub history_stands : HistoryStandsLaw
history_stands n rows history = agreement_law.stands n (tickets_of n history) (memory_of n rows history).labels (history_agrees n rows history)

pub word_stands : WordStandsLaw
word_stands n rows few history labels are same =
    subst (StandsFor n (tickets_of n history))
    (sym (distinct_law n few labels (memory_of n rows history).labels are (history_stands n rows history).are same))
    (history_stands n rows history)

pub beginning : BeginningLaw
beginning n rows front rest legal = legal_from-front n rows (start_memory n rows) front rest legal

pub next_step : NextStepLaw
next_step n rows history s = (
  (λ legal. (beginning n rows history (s ∷ []) legal, legal_from-last n rows (start_memory n rows) history s legal)),
  (λ both. legal_from-snoc n rows (start_memory n rows) history s both.0 both.1),
)

pub one_step : OneStepLaw
one_step n rows history s = (
  memory_after-snoc (start_memory n rows) history s,
  tickets_from-snoc (start_tickets n) history s,
)

start_rows : (n rows : ℕ) → AreRows n rows (start_memory n rows).rows
start_rows n rows = record {
  rows_count = length-replicate rows (replicate n 0);
  each = All-replicate (IsRow n) rows (replicate n 0) (record {
    count = length-replicate n 0;
    each = All-replicate (λ v. v < 2 ^ 32) n 0 (omega arith);
  });
}

set_rows : (n count : ℕ) (rows : List (List ℕ)) (r p v : ℕ) → AreRows n count rows → r < count → v < 2 ^ 32 → AreRows n count (register_set rows r p v)
set_rows n count rows r p v are in_r small =
    let here : IsRow n (slice_index_or rows r []) = All-get_or (IsRow n) rows r [] (omega (arith, are.rows_count)) are.each in
    record {
      rows_count = length-set rows r (slice_set (slice_index_or rows r []) p v) ∙ are.rows_count;
      each = All-set (IsRow n) rows r (slice_set (slice_index_or rows r []) p v)
          (record {
            count = length-set (slice_index_or rows r []) p v ∙ here.count;
            each = All-set (λ x. x < 2 ^ 32) (slice_index_or rows r []) p v small here.each;
          })
          are.each;
    }

acted_rows : (n count : ℕ) (m : Memory) (p : ℕ) (act : SharedAct) → AreRows n count m.rows → MayFollow n count m (record { process = p; act = act })
    → AreRows n count (acted p act m).rows
acted_rows n count m p (Load found) are may = are
acted_rows n count m p (Won old new) are may = are
acted_rows n count m p (Lost old found) are may = are
acted_rows n count m p (Read r i v) are may = are
acted_rows n count m p (Write r v) are may = set_rows n count m.rows r p v are may.1.0 may.1.1
acted_rows n count m p (Clear old) are may = are

rows_from : (n count : ℕ) (steps : List Shared) (m : Memory) → AreRows n count m.rows → IsLegalFrom n count m steps → AreRows n count (memory_after m steps).rows
rows_from n count [] m are legal = are
rows_from n count (s ∷ steps) m are legal =
    rows_from n count steps (after m s) (acted_rows n count m s.process s.act are legal.0) legal.1

-- the register rows of a legal history
pub history_rows : RowsLaw
history_rows n count history legal = rows_from n count history (start_memory n count) (start_rows n count) legal
