-- The labels that a word of a table holds are in the order of whole numbers.
use Rattle.std.specs.Prelude.{◌≡◌, ℕ, length}
use Rattle.word_core.specs.Stamps.{Labels}
use Rattle.word_core.specs.Order.{IsOrdered}

-- labels of `n` processes that are in the order of numbers
pub record AreInOrder (n : ℕ) (labels : Labels) : Type 0 where
  pub count : length labels ≡ n
  pub ordered : IsOrdered labels
