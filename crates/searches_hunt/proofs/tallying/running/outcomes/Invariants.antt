use Rattle.std.proofs.Common.{◌≡◌, List, length, map}
use Rattle.std.specs.Prelude.{string_bytes}
use Rattle.base.specs.Observables.{RunObservables}
use Rattle.tick_play.specs.Outcome.{outcome_lines}
use Rattle.searches_hunt.specs.Tallies.{AreRuns}
use Rattle.searches_hunt.proofs.tallying.running.outcomes.Given as goal

-- the texts so far are those of the runs so far
abbrev pub invariant-loop : goal.invariant-loop
invariant-loop g l =
    (seen : List RunObservables) × (length seen ≡ l.counter)
    × AreRuns (λ old. g.M.Runner.Ran old l.code l.turns 10000) l.fn.runner seen l.runner × (map string_bytes l.texts.items ≡ map outcome_lines seen)
