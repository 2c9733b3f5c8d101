use Rattle.std.proofs.Common.{◌≡◌, false, take, ◌≤◌, ℕ}
use Rattle.tick_kinds.specs.Resolution.{resolved}
use Rattle.tick_source.specs.Source.{source}
use Rattle.searches_explore.specs.Lines.{is_fault, lines_of}
use Rattle.searches_hunt.specs.prover.Parts.{IsLeft}
use Rattle.searches_hunt.proofs.trying.to_fault.Given as goal

-- What was done of the schedule leads to where the whole leads, and so far there was no fault.
abbrev pub invariant-loop-p : goal.invariant-loop-p
invariant-loop-p l = record {
  whole : l.tried.machine ≡ source (resolved l.program) (take l.p-index l.schedule);
  made : l.tried.machine ≡ source (resolved l.program) l.made.items;
  left : IsLeft l.made.items (take l.p-index l.schedule);
  faultless : (k : ℕ) → k ≤ l.p-index → is_fault (lines_of l.lines) (source (resolved l.program) (take k l.schedule)) ≡ false;
  lines : l.tried.lines.now ≡ l.lines;
  processes : l.tried.processes ≡ (resolved l.program).processes;
}
