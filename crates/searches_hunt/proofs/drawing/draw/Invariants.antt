use Rattle.std.proofs.Common.{◌≡◌, ◌<◌}
use Rattle.std.specs.List.{All}
use Rattle.searches_hunt.specs.Draws.{start_drawing, drawn}
use Rattle.searches_hunt.specs.prover.Tries.{drawing_after}
use Rattle.searches_hunt.proofs.drawing.draw.Given as goal

-- the steps so far, and where the drawing stands
abbrev pub invariant-loop : goal.invariant-loop
invariant-loop l =
    (l.schedule.items ≡ drawn l.plan.mode l.n l.counter (start_drawing l.plan.seed l.run))
    × (l.drawing ≡ drawing_after l.plan.mode l.n l.counter (start_drawing l.plan.seed l.run))
    × All (λ p. p < l.n) l.schedule.items
    × (l.drawing.process < l.n)
