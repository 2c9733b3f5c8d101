use Rattle.std.proofs.Common.{take}
use Rattle.searches_hunt.specs.prover.Parts.{IsLeft}
use Rattle.searches_hunt.proofs.leaving.without_steps.Given as goal

abbrev pub invariant-loop-at : goal.invariant-loop-at
invariant-loop-at l = IsLeft l.rest.items (take l.at l.schedule)
