use Rattle.std.proofs.Common.{vec_items, vec_capacity}
use Rattle.tick_run.specs.prover.Work.{IsWorking}
use Rattle.tick_run.proofs.worker.work.Given as goal

abbrev pub invariant-loop : goal.invariant-loop
invariant-loop g l =
    IsWorking l.table l.code l.fn.job.process l.fn.limits.turns l.fn.limits.outs l.counter l.proc l.pass (vec_items l.outputs) (vec_capacity l.outputs)
