-- What the answer of a step says of the history that it ends.
use Rattle.std.proofs.Common.{◌≡◌, ◌≢◌, ℕ, ◌^◌, ◌<◌, ◌≤◌, Bool, List, [], ◌∷◌, ◌++◌, sym, ap, ◌∙◌, subst, arith}
use Rattle.std.specs.Prelude.{slice_index_or}
use Rattle.std.proofs.lemmas.List.Elements.{All-get_or}
use Rattle.word_core.specs.Stamps.{Labels, stamped, cleared}
use Rattle.word_core.specs.Packed.{AreLabels, IsWordOf, word}
use Rattle.word_core.specs.History.{Memory, memory_of, after, acted, Answers, IsLegal, register_at, IsRow}
use Rattle.word_core.specs.declared.history.Shared.{Shared}
use Rattle.word_core.specs.declared.history.SharedAct.{SharedAct}
use Rattle.word_core.specs.declared.history.SharedAct.TheVariants.{Load, Won, Lost, Read, Clear}
use Rattle.word_core.proofs.OfferedHistory.{history_labels, history_ordered, labels_of_word, history_rows, next_step, one_step}
use Rattle.stamp_table.specs.Passes.{by, Extends}
use Rattle.stamp_table.specs.Ordered.{AreInOrder}

-- the answer fits what stood there, and what the step leaves is what stands there now
pub answered : (n rows : ℕ) (held : List Bool) (before after : List Shared) (p : ℕ) (act : SharedAct) → Extends n rows held before (by p act) after
    → (front : List Shared) × Answers n rows (memory_of n rows front) p act × (memory_of n rows after ≡ acted p act (memory_of n rows front))
answered n rows held before after p act e =
    let front : List Shared = before ++ e.between in
    let legal : IsLegal n rows (front ++ by p act ∷ []) = subst (IsLegal n rows) e.is e.legal in (
      front,
      ((next_step n rows front (by p act)).0 legal).1.1,
      ap (memory_of n rows) e.is ∙ (one_step n rows front (by p act)).0,
    )

-- the labels that stand there are labels of the word that stands there
pub word_is : (n rows : ℕ) (history : List Shared) (found : ℕ) → word (memory_of n rows history).labels ≡ found
    → IsWordOf n found (memory_of n rows history).labels
word_is n rows history found is = record { are = history_labels n rows history; packs = is }

-- and there are no others
pub labels_are : (n rows : ℕ) → n ≤ 6 → (history : List Shared) (found : ℕ) (labels : Labels) → word (memory_of n rows history).labels ≡ found
    → IsWordOf n found labels → labels ≡ (memory_of n rows history).labels
labels_are n rows few history found labels is word_of =
    labels_of_word n few labels (memory_of n rows history).labels word_of.are (history_labels n rows history) (word_of.packs ∙ sym is)

module _ (n rows : ℕ) (held : List Bool) (before after : List Shared) (p : ℕ) where
  pub load_found : (found : ℕ) → Extends n rows held before (by p (Load found)) after → word (memory_of n rows after).labels ≡ found
  load_found found e =
      let a = answered n rows held before after p (Load found) e in
      ap (λ (m : Memory). word m.labels) a.2 ∙ sym a.1

  pub lost_found : (old found : ℕ) → Extends n rows held before (by p (Lost old found)) after
      → (word (memory_of n rows after).labels ≡ found) × (found ≢ old)
  lost_found old found e =
      let a = answered n rows held before after p (Lost old found) e in
      (ap (λ (m : Memory). word m.labels) a.2 ∙ sym a.1.0, a.1.1)

  pub won_labels : (old new : Labels) → n ≤ 6 → AreLabels n old → new ≡ stamped p old → Extends n rows held before (by p (Won (word old) (word new))) after
      → new ≡ (memory_of n rows after).labels
  won_labels old new few are stamps e =
      let a = answered n rows held before after p (Won (word old) (word new)) e in
      let same : old ≡ (memory_of n rows a.0).labels = labels_of_word n few old (memory_of n rows a.0).labels are (history_labels n rows a.0) a.1.0 in
      stamps ∙ ap (stamped p) same ∙ ap (λ (m : Memory). m.labels) (sym a.2)

  -- the word that a clear found is one of labels, and what it leaves of them is what stands there
  pub clear_found : (found : ℕ) → Extends n rows held before (by p (Clear found)) after → (labels : Labels) × IsWordOf n found labels
  clear_found found e =
      let a = answered n rows held before after p (Clear found) e in
      ((memory_of n rows a.0).labels, word_is n rows a.0 found (sym a.1))

  pub clear_leaves : (found : ℕ) (labels : Labels) → n ≤ 6 → IsWordOf n found labels → Extends n rows held before (by p (Clear found)) after
      → cleared p labels ≡ (memory_of n rows after).labels
  clear_leaves found labels few word_of e =
      let a = answered n rows held before after p (Clear found) e in
      ap (cleared p) (labels_are n rows few a.0 found labels (sym a.1) word_of) ∙ ap (λ (m : Memory). m.labels) (sym a.2)

  pub read_found : (r i v : ℕ) → Extends n rows held before (by p (Read r i v)) after → v ≡ register_at (memory_of n rows after).rows r i
  read_found r i v e =
      let a = answered n rows held before after p (Read r i v) e in
      a.1.2 ∙ ap (λ (m : Memory). register_at m.rows r i) (sym a.2)

  -- what is read fits a register
  pub read_fits : (r i v : ℕ) → Extends n rows held before (by p (Read r i v)) after → v < 2 ^ 32
  read_fits r i v e =
      let a = answered n rows held before after p (Read r i v) e in
      let are = history_rows n rows after e.legal in
      let row : List ℕ = slice_index_or (memory_of n rows after).rows r [] in
      let fits : IsRow n row = All-get_or (IsRow n) (memory_of n rows after).rows r [] (omega (arith, are.rows_count, a.1.0)) are.each in
      subst (λ x. x < 2 ^ 32) (sym (read_found r i v e)) (All-get_or (λ x. x < 2 ^ 32) row i 0 (omega (arith, fits.count, a.1.1)) fits.each)

pub ordered_labels : (n rows : ℕ) (history : List Shared) (labels : Labels) → labels ≡ (memory_of n rows history).labels → AreInOrder n labels
ordered_labels n rows history labels is =
    subst (AreInOrder n) (sym is) (record { count = (history_labels n rows history).count; ordered = history_ordered n rows history })
