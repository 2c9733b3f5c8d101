-- What each kind of step asks of the rule.
use Rattle.std.proofs.Common.{◌≡◌, ℕ, suc, ◌+◌, ◌*◌, ◌^◌, ◌<◌, ◌≤◌, ◌==◌, Bool, List, ◌∷◌, sym, ap, ◌∙◌, subst, ⊎_elim, arith}
use Rattle.std.specs.Prelude.{slice_index, slice_set, bit_and}
use Rattle.std.specs.List.{concat}
use Rattle.std.proofs.lemmas.Bool.{cases_eq, eq-eqb, ne_eqb}
use Rattle.std.proofs.lemmas.List.{set-get_or}
use prog.Atomic.{either}
use Rattle.word_core.specs.Stamps.{Labels, stamped, cleared}
use Rattle.word_core.specs.Packed.{AreLabels, word}
use Rattle.word_core.specs.History.{Memory, memory_of, after, MayFollow}
use Rattle.word_core.specs.declared.history.SharedAct.TheVariants.{Load, Read, Write, Clear}
use Rattle.word_core.proofs.OfferedHistory.{history_labels, labels_of_word, history_rows}
use Rattle.stamp_table.specs.Passes.{Holds, by}
use Rattle.stamp_table.specs.Rule.{table_words}
use Rattle.stamp_table.specs.prover.Steps.{Goes, exchange_act}
use Rattle.stamp_table.proofs.Places.{concat-at, concat-set}

pub load_goes : (n rows : ℕ) (held : List Bool) (p : ℕ) → p < n → Holds held p → Goes n rows held 0 (λ found. found) (λ found. by p (Load found))
load_goes n rows held p in_p holds history legal found is =
    ((in_p, is), ap (λ (x : ℕ). x ∷ concat (memory_of n rows history).rows) is, holds)

pub exchange_goes : (n rows : ℕ) (held : List Bool) (p : ℕ) (old new : Labels) → n ≤ 6 → p < n → Holds held p → AreLabels n old → new ≡ stamped p old
    → Goes n rows held 0 (λ found. either (found == word old) (word new) found) (λ found. by p (exchange_act (found == word old) (word old) (word new) found))
exchange_goes n rows held p old new few in_p holds are stamps history legal found is =
    let m : Memory = memory_of n rows history in
    let Right : Bool → Type 0 = λ same.
    MayFollow n rows m (by p (exchange_act same (word old) (word new) found))
    × (slice_set (table_words m) 0 (either same (word new) found) ≡ table_words (after m (by p (exchange_act same (word old) (word new) found))))
    × Holds held p in
    ⊎_elim
    (λ same.
    let labels : old ≡ m.labels = labels_of_word n few old m.labels are (history_labels n rows history) (sym same ∙ is) in
    let next : word new ≡ word (stamped p m.labels) = ap word (stamps ∙ ap (stamped p) labels) in
    subst Right (sym (eq-eqb found (word old) same))
    ((in_p, (sym same ∙ is, next)), ap (λ (x : ℕ). x ∷ concat m.rows) next, holds))
    (λ other.
    subst Right (sym (ne_eqb found (word old) other))
    ((in_p, (is, other)), ap (λ (x : ℕ). x ∷ concat m.rows) is, holds))
    (cases_eq found (word old))

-- a mask that clears labels of whatever processes clears those of the history
pub clear_goes : (n rows : ℕ) (held : List Bool) (p mask : ℕ) → p < n → Holds held p
    → ((labels : Labels) → AreLabels n labels → bit_and (word labels) mask ≡ word (cleared p labels))
    → Goes n rows held 0 (λ found. bit_and found mask) (λ found. by p (Clear found))
clear_goes n rows held p mask in_p holds clears history legal found is =
    let m : Memory = memory_of n rows history in
    let left : bit_and found mask ≡ word (cleared p m.labels) = ap (λ x. bit_and x mask) is ∙ clears m.labels (history_labels n rows history) in
    ((in_p, is), ap (λ (x : ℕ). x ∷ concat m.rows) left, holds)

second : (k : ℕ) → 1 + k ≡ suc k
second k = omega arith

pub read_goes : (n rows : ℕ) (held : List Bool) (p r i place : ℕ) → p < n → Holds held p → r < rows → i < n → place ≡ r * n + i
    → Goes n rows held (1 + place) (λ found. found) (λ found. by p (Read r i found))
read_goes n rows held p r i place in_p holds in_r in_i stands history legal found is =
    let m : Memory = memory_of n rows history in
    let are = history_rows n rows history legal in
    let here : found ≡ slice_index (concat m.rows) (r * n + i) =
    is ∙ ap (slice_index (table_words m)) (second place) ∙ ap (slice_index (concat m.rows)) stands in
    let same : slice_set (table_words m) (1 + place) found ≡ table_words m =
    ap (slice_set (table_words m) (1 + place)) is ∙ set-get_or (table_words m) (1 + place) 0 in
    ((in_p, (in_r, in_i, here ∙ concat-at n m.rows r i are.each (omega (arith, are.rows_count)) in_i)), same, holds)

pub write_goes : (n rows : ℕ) (held : List Bool) (p r v place : ℕ) → p < n → Holds held p → r < rows → v < 2 ^ 32 → place ≡ r * n + p
    → Goes n rows held (1 + place) (λ found. v) (λ found. by p (Write r v))
write_goes n rows held p r v place in_p holds in_r small stands history legal found is =
    let m : Memory = memory_of n rows history in
    let are = history_rows n rows history legal in
    let set_at : slice_set (table_words m) (1 + place) v ≡ word m.labels ∷ slice_set (concat m.rows) (r * n + p) v =
    ap (λ k. slice_set (table_words m) k v) (second place) ∙ ap (λ k. word m.labels ∷ slice_set (concat m.rows) k v) stands in (
      (in_p, (in_r, small)),
      set_at ∙ ap (λ (xs : List ℕ). word m.labels ∷ xs) (concat-set n m.rows r p v are.each (omega (arith, are.rows_count)) in_p),
      holds,
    )
