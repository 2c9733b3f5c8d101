-- What a clear tells.
use Rattle.std.specs.Prelude.{◌≡◌, ℕ}
use Rattle.word_core.specs.Stamps.{Labels, cleared}
use Rattle.word_core.specs.Packed.{AreLabels, word}
use Rattle.word_core.specs.declared.history.SharedAct.TheVariants.{Clear}
use Rattle.stamp_table.specs.Passes.{PassView, by, Appends}

-- Process `p` gave its label up, and the step tells the word of the labels that it found. What is told is
-- what the clear leaves of them.
pub record Clears (p : ℕ) (old : PassView) (left : Labels) (new : PassView) : Type 0 where
  pub found : Labels
  pub are : AreLabels old.table.n found
  pub step : Appends old (by p (Clear (word found))) new
  pub leaves : left ≡ cleared p found
