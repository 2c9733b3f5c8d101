-- What the answer of an exchange says of the history that it ends.
use Rattle.std.proofs.Common.{◌≡◌, ◌≤◌, ℕ, Bool, List, ap}
use Rattle.word_core.specs.Stamps.{Labels, stamped}
use Rattle.word_core.specs.Packed.{AreLabels, word}
use Rattle.word_core.specs.History.{memory_of}
use Rattle.word_core.specs.declared.history.Shared.{Shared}
use Rattle.stamp_table.specs.Passes.{by, Extends}
use Rattle.stamp_table.specs.Swapped.{swap_act, swap_leaves, LostToOthers}
use Rattle.stamp_table.specs.declared.label_word.Swap.{Swap}
use Rattle.stamp_table.specs.declared.label_word.Swap.TheVariants.{Won, Lost}
use Rattle.stamp_table.proofs.Answering.{lost_found, won_labels, labels_are, ordered_labels}

-- labels that were found are those of `n` processes
abbrev pub LostAre : ℕ → Swap → Type 0
LostAre n Won = Unit {0}
LostAre n (Lost found) = AreLabels n found

module _ (n rows : ℕ) (held : List Bool) (before after : List Shared) (p : ℕ) (old new : Labels) where
  pub leaves : (answer : Swap) → n ≤ 6 → AreLabels n old → new ≡ stamped p old → LostAre n answer → Extends n rows held before (by p (swap_act old new answer)) after
      → swap_leaves new answer ≡ (memory_of n rows after).labels
  leaves Won few are stamps lost e = won_labels n rows held before after p old new few are stamps e
  leaves (Lost found) few are stamps lost e =
      let is = (lost_found n rows held before after p (word old) (word found) e).0 in
      labels_are n rows few after (word found) found is (record { are = lost; packs = λ i. word found })

  pub differs : (answer : Swap) → Extends n rows held before (by p (swap_act old new answer)) after → swap_leaves new answer ≡ (memory_of n rows after).labels
      → LostToOthers n old answer
  differs Won e is = tt
  differs (Lost found) e is =
      let other = (lost_found n rows held before after p (word old) (word found) e).1 in
      ((λ same. other (ap word same)), ordered_labels n rows after found is)
