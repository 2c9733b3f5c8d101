-- What holds of a schedule that leads to a fault, while items of it are left out.
use Rattle.std.specs.Prelude.{◌≡◌, ◌<◌, ℕ, true, List, [], ◌∷◌, length}
use Rattle.std.specs.List.{All}
use Rattle.base.specs.Plain.{WholeProgram}
use Rattle.language_properties.specs.Properties.{Formula}
use Rattle.tick_source.specs.Source.{source}
use Rattle.searches_explore.specs.Lines.{is_fault}
use Rattle.searches_explore.specs.Needed.{NeedsAll}

-- what is left of a list where some of its items are left out
pub data IsLeft : List ℕ → List ℕ → Type 0 where
  no_items : IsLeft [] []
  one_out : (y : ℕ) (xs ys : List ℕ) → IsLeft xs ys → IsLeft xs (y ∷ ys)
  one_kept : (y : ℕ) (xs ys : List ℕ) → IsLeft xs ys → IsLeft (y ∷ xs) (y ∷ ys)

-- a schedule of the program's processes after which one has trapped or a line is broken
pub record IsFault (a : WholeProgram ℕ) (lines : List Formula) (schedule : List ℕ) : Type 0 where
  pub lawful : All (λ p. p < a.processes) schedule
  pub fault : is_fault lines (source a schedule) ≡ true

-- what is left of a schedule, where it is still so
pub record IsFaultOf (a : WholeProgram ℕ) (lines : List Formula) (whole part : List ℕ) : Type 0 where
  pub fault : IsFault a lines part
  pub left : IsLeft part whole

-- What a pass leaves: it is still so, and where nothing was left out, the fault needs each step.
pub record IsPassed (a : WholeProgram ℕ) (lines : List Formula) (whole part : List ℕ) : Type 0 where
  pub of_whole : IsFaultOf a lines whole part
  pub needed : length part ≡ length whole → NeedsAll a lines part
