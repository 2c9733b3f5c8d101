use Rattle.std.proofs.Common.{◌++◌, List, drop}
use Rattle.ticklab_explain.specs.Following.{AreFitting}
use Rattle.ticklab_explain.specs.declared.wanted.Wanted.{Wanted}
use Rattle.ticklab_explain.proofs.expected.fitting.Given as goal

-- what fits of the rest makes all that fit
abbrev pub invariant-loop-one : goal.invariant-loop-one
invariant-loop-one l =
    (rest : List Wanted) → AreFitting l.front (drop l.one-index l.among) rest → AreFitting l.front l.among (l.wanted.items ++ rest)
