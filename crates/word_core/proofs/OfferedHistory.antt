-- The lemmas on histories that other crates may cite.
use Rattle.std.proofs.Common.{◌≡◌, ◌≤◌, ℕ, List}
use Rattle.word_core.specs.Stamps.{Labels}
use Rattle.word_core.specs.Packed.{AreLabels, word}
use Rattle.word_core.specs.Order.{IsOrdered}
use Rattle.word_core.specs.History.{memory_of}
use Rattle.word_core.specs.declared.history.Shared.{Shared}
use Rattle.word_core.proofs.Offered.{distinct_law}
-- what `law_histories` says
pub use Rattle.word_core.proofs.Histories.{history_stands, word_stands, beginning, next_step, one_step, history_rows}

-- the labels of a history are labels of its processes, and ordered
pub history_labels : (n rows : ℕ) (history : List Shared) → AreLabels n (memory_of n rows history).labels
history_labels n rows history = (history_stands n rows history).are

pub history_ordered : (n rows : ℕ) (history : List Shared) → IsOrdered (memory_of n rows history).labels
history_ordered n rows history = (history_stands n rows history).ordered

-- labels of one number of processes, at most six, with one word are the same
pub labels_of_word : (n : ℕ) → n ≤ 6 → (a b : Labels) → AreLabels n a → AreLabels n b → word a ≡ word b → a ≡ b
labels_of_word = distinct_law
