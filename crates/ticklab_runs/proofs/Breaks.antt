-- A run of which each state is asked until a line first is broken, and the lines of a state one by one until one is.
-- The idea. So far either no line was broken, or the first break is known (`FoundBefore`); one state more keeps that (`watched`),
-- and after the last state it is what the contract says (`all_watched`). The rest says what is known of a break that was found:
-- its line has a place, and it comes after no more steps than there are.
-- Read `FoundBefore` first, then `watched`.
use Rattle.std.proofs.Common.{◌≡◌, ◌∙◌, ◌<◌, ◌≤◌, ◌+◌, ℕ, Bool, false, List, length, get_or, map, option_map, take, ap, sym, subst, arith, inl, inr, Option, None, Some, MatchOption, true≢false}
use Rattle.std.specs.Prelude.{◌||◌, IfNone, IfSome, is_some, slice_get, unwrap_or}
use Rattle.std.specs.List.{list_any}
use Rattle.std.proofs.lemmas.Bool.{cases_lt}
use Rattle.std.proofs.lemmas.List.{get_or-map, length-map}
use Rattle.std.proofs.lemmas.List.Folds.{list_any_more}
use Rattle.std.proofs.lemmas.Option.{get_or_from_slice_get, slice_get-get_or, slice_get_within}
use Rattle.base.specs.Plain.{WholeProgram}
use Rattle.language_properties.specs.declared.property.Property.{Property}
use Rattle.language_properties.specs.Properties.{Formula, formula_of}
use Rattle.searches_explore.specs.Lines.{IsFirstBroken, breaks, lines_of}
use Rattle.tick_source.specs.Source.{SourceState, source}
use Rattle.ticklab_files.specs.Asking.{TextPlace}
use Rattle.ticklab_runs.specs.Breaking.{BrokenAt, IsFirstAt, IsFirstBreak, NeverBreaks, breaking, broken_at, unbroken}
use Rattle.ticklab_runs.specs.declared.breaking.Break.{Break}
use Rattle.ticklab_runs.specs.declared.breaking.BrokenLine.{BrokenLine}

-- what is held at an index, in whatever form the definitions have it
pub held_there : {X Y : Type 0} (form : X → Y) (xs : List X) (at : ℕ) (x : X) → at < length xs → x ≡ get_or xs at x
    → slice_get (map form xs) at ≡ Some (form x)
held_there form xs at x inside is =
    slice_get-get_or (map form xs) at (form x) (omega (arith, inside, length-map xs form))
    ∙ ap Some (get_or-map form xs at x (form x) inside ∙ ap form (sym is))

-- what was found of lines that the code has as a slice
pub found_in : (a : WholeProgram ℕ) (lines given : List Property) (schedule : List ℕ) (found : Option Break) (b : Break) → given ≡ lines → found ≡ Some b
    → MatchOption found (NeverBreaks a (lines_of given) schedule) (IsFirstBreak a (lines_of given) schedule) → IsFirstBreak a (lines_of lines) schedule b
found_in a lines given schedule found b same is told =
    subst (λ (ls : List Property). IsFirstBreak a (lines_of ls) schedule b) same
    (subst (λ (o : Option Break). MatchOption o (NeverBreaks a (lines_of given) schedule) (IsFirstBreak a (lines_of given) schedule)) is told)

-- it has a place
pub placed : {Y : Type 0} (a : WholeProgram ℕ) (lines : List Property) (places : List Y) (schedule : List ℕ) (b : Break)
    → IsFirstBreak a (lines_of lines) schedule b → length lines ≡ length places → b.line < length places
placed a lines places schedule b first as_many =
    omega (arith, as_many, length-map lines formula_of, slice_get_within (lines_of lines) b.line first.broken.formula first.broken.there)

-- what was found has a place, and comes after no more steps than there are
module _ (a : WholeProgram ℕ) (lines : List Formula) (places : List TextPlace) (schedule : List ℕ) where
  line_within : (found : BrokenAt) → IsFirstAt a lines places schedule (Some found) → found.broken.line < length places
  line_within found (unbroken never none) = absurd (true≢false (ap is_some none))
  line_within found (breaking b first place there same) =
      subst (λ (f : BrokenAt). f.broken.line < length places) (sym (ap (λ o. unwrap_or o found) same)) (slice_get_within places b.line place there)

  steps_within : (found : BrokenAt) → IsFirstAt a lines places schedule (Some found) → found.broken.steps ≤ length schedule
  steps_within found (unbroken never none) = absurd (true≢false (ap is_some none))
  steps_within found (breaking b first place there same) =
      subst (λ (f : BrokenAt). f.broken.steps ≤ length schedule) (sym (ap (λ o. unwrap_or o found) same)) first.within

  -- as the code has it
  pub line_found : (found : Option BrokenLine) (count : ℕ) → count ≡ length places → IsFirstAt a lines places schedule (option_map broken_at found)
      → IfSome found (λ line. line.broken.line < count)
  line_found None count all first = tt
  line_found (Some line) count all first = subst (λ n. line.broken.line < n) (sym all) (line_within (broken_at line) first)

  pub steps_found : (found : Option BrokenLine) (count : ℕ) → count ≡ length schedule → IsFirstAt a lines places schedule (option_map broken_at found)
      → IfSome found (λ line. line.broken.steps ≤ count)
  steps_found None count all first = tt
  steps_found (Some line) count all first = subst (λ n. line.broken.steps ≤ n) (sym all) (steps_within (broken_at line) first)

-- one more that doesn't pass the test
pub none_more : {X : Type 0} (test : X → Bool) (xs : List X) (at : ℕ) (x : X) → slice_get xs at ≡ Some x
    → list_any test (take at xs) ≡ false → test x ≡ false → list_any test (take (at + 1) xs) ≡ false
none_more test xs at x there before none =
    list_any_more test xs at x (slice_get_within xs at x there)
    ∙ λ i. before i || (ap test (get_or_from_slice_get xs at x x there) ∙ none) i

-- what holds of all so far, and of one more
more_so_far : (P : ℕ → Type 0) (i : ℕ) → ((k : ℕ) → k < i → P k) → P i → (k : ℕ) → k < i + 1 → P k
more_so_far P i before here k below = elim (cases_lt k i) as (λ _. P k) [
  | inl earlier ↦ before k earlier
  | inr past ↦ subst P (omega (arith, below, past)) here
]

module _ (a : WholeProgram ℕ) (lines : List Formula) (schedule : List ℕ) (i : ℕ) (s : SourceState)
    (at : s ≡ source a (take i schedule)) (before : (k : ℕ) → k < i → breaks lines (source a (take k schedule)) ≡ false) where
  unbroken_on : breaks lines s ≡ false → (k : ℕ) → k < i + 1 → breaks lines (source a (take k schedule)) ≡ false
  unbroken_on none = more_so_far (λ k. breaks lines (source a (take k schedule)) ≡ false) i before (ap (breaks lines) (sym at) ∙ none)

  broken_here : (b : Break) → b.steps ≡ i → i ≤ length schedule → IsFirstBroken lines s b.line b.value → IsFirstBreak a lines schedule b
  broken_here b steps within first = record {
    within = subst (λ k. k ≤ length schedule) (sym steps) within;
    broken = subst (λ (t : SourceState). IsFirstBroken lines t b.line b.value) (at ∙ ap (λ k. source a (take k schedule)) (sym steps)) first;
    none_before = λ k below. before k (subst (λ j. k < j) steps below);
  }

module _ (a : WholeProgram ℕ) (lines : List Formula) (schedule : List ℕ) (i : ℕ) where
  -- no line is broken after fewer steps
  abbrev pub UnbrokenBefore : Type 0
  UnbrokenBefore = (k : ℕ) → k < i → breaks lines (source a (take k schedule)) ≡ false

  -- what is found so far
  abbrev pub FoundBefore : Option Break → Type 0
  FoundBefore found = MatchOption found UnbrokenBefore (IsFirstBreak a lines schedule)

-- One state more is asked, unless a break was found before.
pub watched : (a : WholeProgram ℕ) (lines : List Formula) (schedule : List ℕ) (i : ℕ) (s : SourceState) (old new : Option Break)
    → i ≤ length schedule → s ≡ source a (take i schedule) → FoundBefore a lines schedule i old → IfSome old (λ b. new ≡ Some b)
    → IfNone old (IfSome new (λ b. (b.steps ≡ i) × IsFirstBroken lines s b.line b.value)) → IfNone old (IfNone new (breaks lines s ≡ false))
    → FoundBefore a lines schedule (i + 1) new
watched a lines schedule i s (Some b) new within at first same broken none = subst (FoundBefore a lines schedule (i + 1)) (sym same) first
watched a lines schedule i s None (Some b) within at before same broken none = broken_here a lines schedule i s at before b broken.0 within broken.1
watched a lines schedule i s None None within at before same broken none = unbroken_on a lines schedule i s at before none

-- all were asked
pub all_watched : (a : WholeProgram ℕ) (lines : List Formula) (schedule : List ℕ) (found : Option Break) → FoundBefore a lines schedule (length schedule + 1) found
    → MatchOption found (NeverBreaks a lines schedule) (IsFirstBreak a lines schedule)
all_watched a lines schedule None before = λ k within. before k (omega (arith, within))
all_watched a lines schedule (Some b) first = first
