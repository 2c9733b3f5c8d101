use Rattle.std.proofs.Common.{◌≡◌, ◌+◌, ◌≤◌, ◌++◌, vec_items, vec_len, vec_capacity}
use Rattle.std.specs.List.{enumerate_from}
use Rattle.std.specs.Vec.Iter.{into_iter_items, into_iter_len}
use Rattle.tests_shared.proofs.threads.numbered.Given as goal

-- the first passes have their places, and the others follow
abbrev pub invariant-loop-pass : goal.invariant-loop-pass
invariant-loop-pass l =
    (vec_items l.jobs ++ enumerate_from l.p (into_iter_items l.pass-iterator) ≡ enumerate_from 0 (vec_items l.fn.passes))
    × (l.p + into_iter_len l.pass-iterator ≡ vec_len l.fn.passes) × (vec_len l.jobs ≡ l.p) × (vec_len l.fn.passes ≤ vec_capacity l.jobs)
