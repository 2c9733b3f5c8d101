-- What an exchange answers.
use Rattle.std.specs.Prelude.{◌≢◌, ℕ}
use Rattle.word_core.specs.Stamps.{Labels}
use Rattle.word_core.specs.Packed.{word}
use Rattle.word_core.specs.declared.history.SharedAct.{SharedAct}
use Rattle.word_core.specs.declared.history.SharedAct.TheVariants as A
use Rattle.stamp_table.specs.Ordered.{AreInOrder}
use Rattle.stamp_table.specs.declared.label_word.Swap.{Swap}
use Rattle.stamp_table.specs.declared.label_word.Swap.TheVariants.{Won, Lost}

-- the step that an exchange was
abbrev pub swap_act : Labels → Labels → Swap → SharedAct
swap_act old new Won = A.Won (word old) (word new)
swap_act old new (Lost found) = A.Lost (word old) (word found)

-- the labels that an exchange leaves
abbrev pub swap_leaves : Labels → Swap → Labels
swap_leaves new Won = new
swap_leaves new (Lost found) = found

-- where an exchange is lost, other labels than the old ones were found
abbrev pub LostToOthers : ℕ → Labels → Swap → Type 0
LostToOthers n old Won = Unit {0}
LostToOthers n old (Lost found) = (found ≢ old) × AreInOrder n found
