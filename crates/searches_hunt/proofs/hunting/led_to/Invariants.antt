use Rattle.std.proofs.Common.{◌≡◌, take}
use Rattle.tick_kinds.specs.Resolution.{resolved}
use Rattle.tick_source.specs.Source.{source}
use Rattle.searches_hunt.proofs.hunting.led_to.Given as goal

-- so many steps of the schedule were made
abbrev pub invariant-loop-p : goal.invariant-loop-p
invariant-loop-p l = record {
  led : l.tried.machine ≡ source (resolved l.program) (take l.p-index l.schedule);
  lines : l.tried.lines.now ≡ l.lines;
  processes : l.tried.processes ≡ (resolved l.program).processes;
}
