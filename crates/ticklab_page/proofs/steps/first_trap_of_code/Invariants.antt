use Rattle.std.proofs.Common.{◌≡◌, ◌+◌, drop, map}
use Rattle.ticklab_page.specs.Steps.{first_trap}
use Rattle.ticklab_page.proofs.steps.first_trap_of_code.Given as goal

abbrev pub invariant-loop-before : goal.invariant-loop-before
invariant-loop-before l = first_trap (l.before + 1) (map (λ step. step.act) (drop l.before l.steps)) ≡ first_trap 1 (map (λ step. step.act) l.steps)
