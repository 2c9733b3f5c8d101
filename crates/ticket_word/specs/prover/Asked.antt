-- What the code makes of a word before it answers.
use Rattle.std.specs.Prelude.{◌≡◌, ℕ, ◌-◌, ◌<◌, List, ◌++◌, length, replicate, IsTrue}
use Rattle.word_core.specs.Stamps.{Labels, label_at, is_present}
use Rattle.word_core.specs.Packed.{IsWordOf}
use Rattle.word_core.specs.Order.{IsOrdered, older_label, label_ranks}
use Rattle.ticket_word.specs.Standing.{IsCount}
use Rattle.ticket_word.specs.Faults.{AreProcesses}
use Rattle.ticket_word.specs.declared.asked.Fault.{Fault}
use Rattle.ticket_word.specs.declared.asked.Fault.TheVariants.{Count, Process, Word}

abbrev pub fault_number : Fault → ℕ
fault_number Count = 1
fault_number Process = 2
fault_number Word = 3

-- the ordered labels of a word of `n` processes, of which these are some
pub record IsAsked (n bits : ℕ) (processes : List ℕ) (labels : Labels) : Type 0 where
  pub count : IsCount n
  pub are : AreProcesses n processes
  pub is : IsWordOf n bits labels
  pub ordered : IsOrdered labels

-- the ranks of such labels, and 0 past the last
pub record AreAskedRanks (n bits : ℕ) (processes ranks : List ℕ) : Type 0 where
  pub labels : Labels
  pub asked : IsAsked n bits processes labels
  pub are : ranks ≡ label_ranks labels ++ replicate (6 - length labels) 0

-- process `p` is present, and nobody who is present is older
pub record IsFirstLabel (labels : Labels) (p : ℕ) : Type 0 where
  pub holds : IsTrue (is_present (label_at labels p))
  pub smallest : (i : ℕ) → i < length labels → IsTrue (is_present (label_at labels i)) → ¬ IsTrue (older_label labels i p)
