-- Where a run of a program first breaks a line that must never hold.
use Rattle.std.specs.Prelude.{◌≡◌, ◌≤◌, ◌<◌, ◌+◌, ◌-◌, ◌==◌, if◌then◌else◌, ℕ, false, List, drop, length, slice_get, take, Option, Some, None}
use Rattle.base.specs.Plain.{WholeProgram}
use Rattle.language_properties.specs.Properties.{Formula}
use Rattle.searches_explore.specs.Lines.{IsFirstBroken, breaks}
use Rattle.tick_source.specs.Source.{source}
use Rattle.ticklab_draw.specs.Never.{Broken}
use Rattle.ticklab_files.specs.Asking.{TextPlace, place_of}
use Rattle.ticklab_runs.specs.declared.breaking.Break.{Break}
use Rattle.ticklab_runs.specs.declared.breaking.BrokenLine.{BrokenLine}

-- Under this schedule, step by step.
module _ (a : WholeProgram ℕ) (lines : List Formula) (schedule : List ℕ) where
  -- no line is broken, also not at the start and at the end
  abbrev pub NeverBreaks : Type 0
  NeverBreaks = (steps : ℕ) → steps ≤ length schedule → breaks lines (source a (take steps schedule)) ≡ false

  -- this is the first line that is broken, where one first is
  pub record IsFirstBreak (b : Break) : Type 0 where
    pub within : b.steps ≤ length schedule
    pub broken : IsFirstBroken lines (source a (take b.steps schedule)) b.line b.value
    pub none_before : (steps : ℕ) → steps < b.steps → breaks lines (source a (take steps schedule)) ≡ false

-- a line that is broken, where it stands, and how it is
pub record BrokenAt : Type 0 where
  pub place : TextPlace
  pub broken : Break

-- the first of these lines to be broken, which stand here, where one is
pub data IsFirstAt (a : WholeProgram ℕ) (lines : List Formula) (places : List TextPlace) (schedule : List ℕ) (found : Option BrokenAt) : Type 0 where
  unbroken : NeverBreaks a lines schedule → found ≡ None → IsFirstAt a lines places schedule found
  breaking : (b : Break) → IsFirstBreak a lines schedule b → (place : TextPlace) → slice_get places b.line ≡ Some place
      → found ≡ Some (record { place = place; broken = b }) → IsFirstAt a lines places schedule found

-- what the code holds of it
abbrev pub broken_at : BrokenLine → BrokenAt
broken_at line = record { place = place_of line.place; broken = line.broken }

-- the text at a place
abbrev pub text_at : TextPlace → List ℕ
text_at place = take (place.span.end - place.span.start) (drop place.span.start place.text)

-- how a picture marks a broken line, one of so many
abbrev pub mark_of : ℕ → BrokenAt → Broken
mark_of count found = record {
  steps = found.broken.steps;
  number = if count == 1 then None else Some (found.broken.line + 1);
  text = text_at found.place;
  value = found.broken.value;
}
