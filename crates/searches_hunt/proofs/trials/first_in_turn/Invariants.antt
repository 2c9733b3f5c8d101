use Rattle.std.proofs.Common.{ℕ, ◌<◌, ◌≤◌}
use Rattle.tick_kinds.specs.Resolution.{resolved}
use Rattle.searches_explore.specs.Lines.{lines_of}
use Rattle.searches_hunt.specs.Draws.{random_schedule}
use Rattle.searches_hunt.specs.Never.{IsFaultless}
use Rattle.searches_hunt.proofs.trials.first_in_turn.Given as goal

-- no run before it has a fault
abbrev pub invariant-loop-run : goal.invariant-loop-run
invariant-loop-run l =
    (other : ℕ) → l.from ≤ other → other < l.run → IsFaultless (resolved l.sought.program.now) (lines_of l.sought.lines.now) (random_schedule l.plan (resolved l.sought.program.now).processes other)
