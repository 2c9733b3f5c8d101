-- What a schedule that is found and a line that breaks are at least.
use Rattle.std.proofs.Common.{◌≡◌, ◌<◌, ℕ, Bool, true, false, List, length, subst}
use Rattle.std.specs.List.{All}
use Rattle.std.proofs.lemmas.List.{length-map}
use Rattle.std.proofs.lemmas.Option.{slice_get_within}
use Rattle.base.specs.Plain.{WholeProgram}
use Rattle.language_properties.specs.declared.property.Property.{Property}
use Rattle.language_properties.specs.Properties.{formula_of}
use Rattle.language_properties.specs.Values.{Valued}
use Rattle.searches_explore.specs.Lines.{IsFirstBroken, lines_of}
use Rattle.searches_explore.specs.Never.{IfBroken, IfFault, IfTrapped}
use Rattle.tick_source.specs.Source.{SourceState}
use Rattle.searches_states.specs.declared.verdict.Verdict.{Verdict}
use Rattle.searches_states.specs.declared.verdict.Verdict.TheVariants.{Found, Nowhere, Limit}
use Rattle.searches_explore.specs.declared.fault.Fault.{Fault}
use Rattle.searches_explore.specs.declared.fault.Fault.TheVariants.{Trapped, Broken}
use Rattle.ticklab_verdicts.specs.BySteps.{BrokenBy, TrapBy}
use Rattle.ticklab_files.specs.declared.asking.PropertyPlace.{PropertyPlace}

module _ (a : WholeProgram ℕ) (lines : List Property) where
  pub line_within : (s : SourceState) (line : ℕ) (v : Valued) → IsFirstBroken (lines_of lines) s line v → line < length lines
  line_within s line v first =
      subst (λ (count : ℕ). line < count) (length-map lines formula_of) (slice_get_within (lines_of lines) line first.formula first.there)

  -- by single steps or by merged ones
  pub lawful_by : {E : Type 0} (m : Bool) (e : Verdict Fault E) → IfTrapped e (TrapBy m a (lines_of lines)) → IfBroken e (BrokenBy m a (lines_of lines))
      → IfFault e (All (λ p. p < a.processes))
  lawful_by false (Found states (Trapped schedule)) traps breaks = traps.lawful
  lawful_by true (Found states (Trapped schedule)) traps breaks = traps.lawful
  lawful_by false (Found states (Broken schedule line v)) traps breaks = breaks.broken.lawful
  lawful_by true (Found states (Broken schedule line v)) traps breaks = breaks.lawful
  lawful_by m (Nowhere states known) traps breaks = tt
  lawful_by m (Limit states) traps breaks = tt

  pub within_by : {E : Type 0} (m : Bool) (e : Verdict Fault E) → IfBroken e (BrokenBy m a (lines_of lines)) → IfBroken e (λ schedule line v. line < length lines)
  within_by m (Found states (Trapped schedule)) breaks = tt
  within_by false (Found states (Broken schedule line v)) breaks = line_within _ line v breaks.broken.first
  within_by true (Found states (Broken schedule line v)) breaks = line_within _ line v breaks.first
  within_by m (Nowhere states known) breaks = tt
  within_by m (Limit states) breaks = tt

-- what holds of the number of the properties, as a slice has them, holds of that of their places
pub as_many_as : (P : ℕ → Type 0) (slice properties : List Property) (places : List PropertyPlace) → slice ≡ properties
    → length properties ≡ length places → P (length slice) → P (length places)
as_many_as P slice properties places same many held = subst P many (subst (λ (lines : List Property). P (length lines)) same held)
