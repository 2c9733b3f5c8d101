use Rattle.std.proofs.Common.{◌≡◌, drop}
use Rattle.std.specs.Vec.{vec_capacity}
use Rattle.code_machine.specs.prover.Held.{on_stack}
use Rattle.code_machine.proofs.stack.Stack.pop.Given as goal

-- what is left after so many were taken
abbrev pub invariant-loop : goal.invariant-loop
invariant-loop l =
    (on_stack l.self ≡ drop l.counter (on_stack l.initial.self)) × (vec_capacity l.self.values ≡ vec_capacity l.initial.self.values)
