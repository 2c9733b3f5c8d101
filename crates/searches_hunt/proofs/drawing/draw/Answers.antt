use Rattle.std.proofs.Common.{◌≡◌, ◌+◌, ◌<◌, [], ◌∷◌, ◌++◌, suc, ap, sym, ◌∙◌, subst, arith}
use Rattle.std.specs.List.{All}
use Rattle.std.proofs.lemmas.List.Elements.{All-push}
use Rattle.searches_hunt.specs.Draws.{next_drawing, start_drawing, drawn}
use Rattle.searches_hunt.specs.prover.Tries.{drawing_after}
use Rattle.searches_hunt.proofs.Drawings.{after_more, drawn_more}
use Rattle.searches_hunt.proofs.drawing.draw.Goals as goal

pub loop-preserved : goal.loop-preserved
loop-preserved c =
    let mode = c.args.plan.mode in
    let n = c.args.n in
    let k = c.loop.counter in
    let d = start_drawing c.args.plan.seed c.args.run in
    let p = c.step-p.result in
    let next : suc k ≡ k + 1 = omega arith in
    let after : c.step-p.new.self ≡ next_drawing mode n (drawing_after mode n k d) = c.step-p.ensures.drawn ∙ ap (next_drawing mode n) c.loop.invariant.1 in
    let process : p ≡ (next_drawing mode n (drawing_after mode n k d)).process = c.step-p.ensures.result ∙ ap (λ e. e.process) after in
    let below : p < n = omega (arith, c.step-p.ensures.result, c.step-p.ensures.process) in (
      c.in_ok-push.ensures.items ∙ ap (λ xs. xs ++ p ∷ []) c.loop.invariant.0 ∙ ap (λ q. drawn mode n k d ++ q ∷ []) process
          ∙ sym (drawn_more mode n k d) ∙ ap (λ i. drawn mode n i d) next,
      after ∙ sym (after_more mode n k d) ∙ ap (λ i. drawing_after mode n i d) next,
      subst (All (λ q. q < n)) (sym c.in_ok-push.ensures.items) (All-push (λ q. q < n) c.loop.schedule.items p c.loop.invariant.2 below),
      c.step-p.ensures.process,
    )
