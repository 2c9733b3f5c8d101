-- What a clear does, and the order that it gives.
use Rattle.std.specs.Prelude.{◌≡◌, [], ◌∷◌, ◌++◌}
use Rattle.word_core.specs.Stamps.{Labels, cleared}
use Rattle.word_core.specs.Packed.{AreLabels, word}
use Rattle.word_core.specs.declared.history.SharedAct.TheVariants.{Clear}
use Rattle.stamp_table.specs.Passes.{by, Appends}
use Rattle.stamp_calls.specs.Callers.{CallerView, own_steps}

-- The caller gave its label up, in one step that tells the word of the labels that it found. The order is
-- what the clear leaves of these.
pub record Clears (old : CallerView) (order : Labels) (new : CallerView) : Type 0 where
  pub found : Labels
  pub are : AreLabels old.pass.table.n found
  pub leaves : order ≡ cleared old.process found
  pub step : Appends old.pass (by old.process (Clear (word found))) new.pass
  pub own : own_steps new ≡ own_steps old ++ by old.process (Clear (word found)) ∷ []
