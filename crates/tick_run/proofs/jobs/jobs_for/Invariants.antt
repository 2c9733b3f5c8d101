use Rattle.std.proofs.Common.{◌≡◌, ◌+◌, ◌≤◌, vec_len, vec_items, vec_capacity}
use Rattle.std.specs.Vec.Iter.{into_iter_len}
use Rattle.tick_run.specs.prover.Work.{AreSplit}
use Rattle.tick_run.proofs.jobs.jobs_for.Given as goal

abbrev pub invariant-loop-gate : goal.invariant-loop-gate
invariant-loop-gate g l =
    AreSplit l.table l.code l.fn.limits.turns l.fn.limits.outs l.process l.left (vec_items l.jobs)
    × (l.process + into_iter_len l.gate-iterator ≡ vec_len l.fn.gates)
    × (vec_len l.fn.gates ≤ vec_capacity l.jobs)
