-- A schedule that is run step by step: where it leads, what of it was noted, and that there was no fault so far.
use Rattle.std.proofs.Common.{◌≡◌, ◌⊎◌, inl, inr, ⊎_elim, ℕ, ◌+◌, ◌<◌, ◌≤◌, true, false, List, [], ◌∷◌, ◌++◌, length, take, get_or, sym, ◌∙◌, ap, arith}
use Rattle.std.specs.List.{All}
use Rattle.std.proofs.lemmas.List.{take_all, take_more}
use Rattle.base.specs.Plain.{WholeProgram}
use Rattle.language_properties.specs.Properties.{Formula}
use Rattle.tick_source.specs.Source.{SourceState, source, source_start, source_step}
use Rattle.searches_explore.specs.Lines.{is_fault}
use Rattle.searches_hunt.specs.Never.{IsFaultless}
use Rattle.searches_hunt.specs.prover.Parts.{IsFaultOf, IsLeft}
use Rattle.searches_hunt.proofs.Left.{left_first, left_lawful, left_on}
use Rattle.searches_hunt.proofs.Runs.{most_or_more, run_append}

module _ (a : WholeProgram ℕ) where
  -- one step more
  pub led_on : (schedule : List ℕ) (p : ℕ) (s s' : SourceState) → s ≡ source a schedule → s' ≡ source_step a.processes p s
      → s' ≡ source a (schedule ++ p ∷ [])
  led_on schedule p s s' is step = step ∙ ap (source_step a.processes p) is ∙ sym (run_append a.processes schedule (p ∷ []) (source_start a))

  -- of as many processes as there are
  of_all : (n p : ℕ) (s s' : SourceState) → n ≡ a.processes → s' ≡ source_step n p s → s' ≡ source_step a.processes p s
  of_all n p s s' all step = step ∙ ap (λ m. source_step m p s) all

  pub step_taken : (schedule : List ℕ) (i n : ℕ) (s s' : SourceState) → i < length schedule → n ≡ a.processes → s ≡ source a (take i schedule)
      → s' ≡ source_step n (get_or schedule i 0) s → s' ≡ source a (take (i + 1) schedule)
  step_taken schedule i n s s' inside all is step =
      let p = get_or schedule i 0 in
      led_on (take i schedule) p s s' is (of_all n p s s' all step) ∙ ap (source a) (sym (take_more schedule i 0 inside))

  -- it is noted, or it did nothing
  abbrev pub IsNoted : ℕ → List ℕ → List ℕ → SourceState → SourceState → Type 0
  IsNoted p made made' s s' = (made' ≡ made ++ p ∷ []) ⊎ ((made' ≡ made) × (s' ≡ s))

  noted_leads : (p : ℕ) (made made' : List ℕ) (s s' : SourceState) → s ≡ source a made → s' ≡ source_step a.processes p s
      → IsNoted p made made' s s' → s' ≡ source a made'
  noted_leads p made made' s s' is step = ⊎_elim
      (λ noted. led_on made p s s' is step ∙ ap (source a) (sym noted))
      (λ (same, idle). idle ∙ is ∙ ap (source a) (sym same))

  noted_left : (schedule : List ℕ) (i : ℕ) (made made' : List ℕ) (s s' : SourceState) → i < length schedule → IsLeft made (take i schedule)
      → IsNoted (get_or schedule i 0) made made' s s' → IsLeft made' (take (i + 1) schedule)
  noted_left schedule i made made' s s' inside left noted = left_on i made made' schedule inside left (⊎_elim inl (λ (same, idle). inr same) noted)

  -- what is known after the next step of a schedule: where it leads, and what was noted
  pub record IsOn (schedule : List ℕ) (i : ℕ) (made' : List ℕ) (s' : SourceState) : Type 0 where
    pub whole : s' ≡ source a (take (i + 1) schedule)
    pub made : s' ≡ source a made'
    pub left : IsLeft made' (take (i + 1) schedule)

  pub is_on : (schedule : List ℕ) (i n : ℕ) (made made' : List ℕ) (s s' : SourceState) → i < length schedule → n ≡ a.processes
      → s ≡ source a (take i schedule) → s ≡ source a made → IsLeft made (take i schedule)
      → s' ≡ source_step n (get_or schedule i 0) s → IsNoted (get_or schedule i 0) made made' s s' → IsOn schedule i made' s'
  is_on schedule i n made made' s s' inside all whole is left step noted =
      let p = get_or schedule i 0 in
      record {
        whole = step_taken schedule i n s s' inside all whole step;
        made = noted_leads p made made' s s' is (of_all n p s s' all step) noted;
        left = noted_left schedule i made made' s s' inside left noted;
      }

  module _ (lines : List Formula) (schedule : List ℕ) where
    -- no fault after so many steps, nor before
    abbrev pub IsFaultlessFirst : ℕ → Type 0
    IsFaultlessFirst i = (k : ℕ) → k ≤ i → is_fault lines (source a (take k schedule)) ≡ false

    pub first_none : is_fault lines (source_start a) ≡ false → IsFaultlessFirst 0
    first_none none k h = ap (λ j. is_fault lines (source a (take j schedule))) (let e : k ≡ 0 = omega arith in e) ∙ none

    pub first_more : (i : ℕ) → IsFaultlessFirst i → is_fault lines (source a (take (i + 1) schedule)) ≡ false → IsFaultlessFirst (i + 1)
    first_more i before now k h = ⊎_elim (before k)
        (λ above. ap (λ j. is_fault lines (source a (take j schedule))) (let e : k ≡ i + 1 = omega arith in e) ∙ now)
        (most_or_more k i)

    pub first_all : (i : ℕ) → length schedule ≤ i → IsFaultlessFirst i → IsFaultless a lines schedule
    first_all i h none k = ⊎_elim (none k)
        (λ above. ap (λ l. is_fault lines (source a l)) (take_all k schedule (omega arith) ∙ sym (take_all i schedule h)) ∙ none i (omega arith))
        (most_or_more k i)

    -- a fault of what was noted
    pub fault_noted : (i : ℕ) (made : List ℕ) (s : SourceState) → All (λ p. p < a.processes) schedule → IsLeft made (take i schedule)
        → s ≡ source a made → is_fault lines s ≡ true → IsFaultOf a lines schedule made
    fault_noted i made s lawful left is fault =
        let of_all = left_first i made schedule left in
        record {
          fault = record { lawful = left_lawful (λ p. p < a.processes) made schedule of_all lawful; fault = ap (is_fault lines) (sym is) ∙ fault };
          left = of_all;
        }
