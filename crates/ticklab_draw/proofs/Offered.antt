-- The lemmas on pictures that other crates may cite.
use Rattle.std.proofs.Common.{◌≡◌, ◌∙◌, ℕ, suc, ◌+◌, List, [], ◌∷◌, ◌++◌, length, ap, arith}
use Rattle.ticklab_draw.specs.declared.mark.Mark.{Mark}
use Rattle.ticklab_draw.specs.Marks.{marks_on}

-- one step more
pub marks_more : {X : Type 0} (add : ℕ → X → List Mark → List Mark) (number : ℕ) (marks : List Mark) (steps : List X) (step : X)
    → marks_on add number marks (steps ++ step ∷ []) ≡ add (number + length steps) step (marks_on add number marks steps)
marks_more add number marks [] step = let e : number ≡ number + 0 = omega arith in ap (λ k. add k step marks) e
marks_more add number marks (first ∷ steps) step =
    let e : number + 1 + length steps ≡ number + suc (length steps) = omega arith in
    marks_more add (number + 1) (add number first marks) steps step
    ∙ ap (λ k. add k step (marks_on add (number + 1) (add number first marks) steps)) e
