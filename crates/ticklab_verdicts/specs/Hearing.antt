-- What a watch hears of searches through all schedules: that one begins, by merged steps or by single ones, how far it
-- is, and that it has found a fault for which a shorter schedule is looked for.
use Rattle.std.specs.Prelude.{◌≡◌, ℕ, Bool, List, [], ◌∷◌, map}
use Rattle.base.specs.Plain.{WholeProgram}
use Rattle.language_properties.specs.Properties.{Formula}
use Rattle.searches_states.specs.Watching.{Told, AreTold, AreToldToEnd}
use Rattle.searches_explore.specs.Searching.{AreBytesFor}
use Rattle.ticklab_verdicts.specs.BySteps.{SeesBy}

pub data Heard : Type 0 where
  begun : (is_merged : Bool) → Heard
  seen : Told → Heard
  fault_found : (is_break : Bool) → Heard

-- what it is for a watch to hear one thing, of the watch before and after
abbrev pub HearsOf : Type 0 → Type 1
HearsOf W = W → Heard → W → Type 0

-- the same by what it is for it that a search begins, that a fault is found, and that three numbers are told
abbrev pub hearing : {W : Type 0} → (W → Bool → W → Type 0) → (W → Bool → W → Type 0) → (W → ℕ → ℕ → ℕ → W → Type 0) → HearsOf W
hearing begins finds sees before (begun is_merged) after = begins before is_merged after
hearing begins finds sees before (seen told) after = sees before told.states told.gone told.bytes after
hearing begins finds sees before (fault_found is_break) after = finds before is_break after

-- The watch heard these, one after the other, and nothing else.
abbrev pub Hears : {W : Type 0} → HearsOf W → W → List Heard → W → Type 0
Hears hears before [] after = before ≡ after
Hears {W} hears before (one ∷ heard) after = (between : W) × hears before one between × Hears hears between heard after

-- the watch heard what P holds of
pub record IsHeard {W : Type 0} (hears : HearsOf W) (before after : W) (P : List Heard → Type 0) : Type 0 where
  pub heard : List Heard
  pub is : Hears hears before heard after
  pub lawful : P heard

-- A search by steps of this kind is heard, in which all steps were made from so many states.
pub record IsSearchHeard (is_merged : Bool) (a : WholeProgram ℕ) (lines : List Formula) (gone : ℕ) (heard : List Heard) : Type 0 where
  pub told : List Told
  pub are : AreTold (SeesBy is_merged a lines) (AreBytesFor a) gone told
  pub whole : heard ≡ begun is_merged ∷ map seen told

-- The same of a search to its end: that so many states were seen, of which so many are gone, is heard last, with a number
-- of bytes of which `held` holds.
pub record IsSearchHeardToEnd (is_merged : Bool) (a : WholeProgram ℕ) (lines : List Formula) (held : ℕ → Type 0) (below states gone : ℕ) (heard : List Heard)
    : Type 0 where
  pub told : List Told
  pub are : AreToldToEnd (SeesBy is_merged a lines) (AreBytesFor a) held below states gone told
  pub whole : heard ≡ begun is_merged ∷ map seen told
