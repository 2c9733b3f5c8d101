use Rattle.std.proofs.Common.{ℕ, ◌-◌, ◌*◌, ◌<◌, ◌≤◌}
use Rattle.tick_kinds.specs.Resolution.{resolved}
use Rattle.searches_explore.specs.Lines.{lines_of}
use Rattle.searches_hunt.specs.Draws.{random_schedule}
use Rattle.searches_hunt.specs.Never.{IsFaultless}
use Rattle.searches_parallel.proofs.on_processors.OnProcessorsTrials.first_fault.Given as goal

-- no run before the next has a fault, and the next round has a run
abbrev pub invariant-rounds : goal.invariant-rounds
invariant-rounds g l = record {
  begun : l.from ≤ l.next;
  inside : l.next ≤ l.end;
  none : (run : ℕ) → l.from ≤ run → run < l.next → IsFaultless (resolved l.sought.program.now) (lines_of l.sought.lines.now) (random_schedule l.plan (resolved l.sought.program.now).processes run);
  some : 0 < l.most;
  few : l.most ≤ 4096 * l.threads;
}

abbrev pub decreases-rounds : goal.decreases-rounds
decreases-rounds g l = l.end - l.next
