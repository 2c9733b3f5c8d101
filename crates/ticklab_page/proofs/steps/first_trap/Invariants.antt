use Rattle.std.proofs.Common.{◌≡◌, ◌+◌, drop, map}
use Rattle.ticklab_page.specs.Steps.{first_trap}
use Rattle.ticklab_page.proofs.steps.first_trap.Given as goal

abbrev pub invariant-loop-at : goal.invariant-loop-at
invariant-loop-at l = first_trap (l.at + 1) (map (λ step. step.act) (drop l.at l.steps)) ≡ first_trap 1 (map (λ step. step.act) l.steps)
