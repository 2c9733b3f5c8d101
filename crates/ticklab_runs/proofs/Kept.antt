-- What is kept of a run grows with its steps.
use Rattle.std.proofs.Common.{◌≡◌, ◌∙◌, ◌+◌, ℕ, List, [], ◌∷◌, ◌++◌, length, ap, arith, sym}
use Rattle.ticklab_draw.proofs.Offered.{marks_more}
use Rattle.ticklab_draw.specs.Marks.{marks_on}
use Rattle.ticklab_draw.specs.declared.mark.Mark.{Mark}
use Rattle.ticklab_runs.specs.declared.told_run.Telling.{Telling}
use Rattle.ticklab_runs.specs.declared.told_run.Telling.TheVariants.{Trace, Picture, Page}
use Rattle.ticklab_runs.specs.prover.Kept.{IsKept, kept_with, marked_with}

module _ {X : Type 0} (add : ℕ → X → List Mark → List Mark) where
  pub kept_none : {T : Type 0} (telling : Telling T) (kept : List X) (marks : List Mark) → kept ≡ [] → marks ≡ [] → IsKept add telling [] kept marks
  kept_none (Trace tracing) kept marks none unmarked = none
  kept_none (Picture drawing) kept marks none unmarked = unmarked
  kept_none (Page paging) kept marks none unmarked = (none, unmarked)

  module _ (steps kept more : List X) (marks marked : List Mark) (step : X) (i : ℕ) (count : length steps ≡ i) where
    more_kept : kept ≡ steps → more ≡ kept ++ step ∷ [] → more ≡ steps ++ step ∷ []
    more_kept before is = is ∙ ap (λ l. l ++ step ∷ []) before

    more_marked : marks ≡ marks_on add 1 [] steps → marked ≡ add (i + 1) step marks → marked ≡ marks_on add 1 [] (steps ++ step ∷ [])
    more_marked before is =
        let number : i + 1 ≡ 1 + length steps = omega (arith, count) in
        is ∙ ap (add (i + 1) step) before ∙ ap (λ k. add k step (marks_on add 1 [] steps)) number ∙ sym (marks_more add 1 [] steps step)

    pub kept_more : {T : Type 0} (telling : Telling T) → IsKept add telling steps kept marks → more ≡ kept_with telling step kept
        → marked ≡ marked_with add telling (i + 1) step marks → IsKept add telling (steps ++ step ∷ []) more marked
    kept_more (Trace tracing) before is is_marked = more_kept before is
    kept_more (Picture drawing) before is is_marked = more_marked before is_marked
    kept_more (Page paging) before is is_marked = (more_kept before.0 is, more_marked before.1 is_marked)
