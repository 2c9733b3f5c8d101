use Rattle.std.proofs.Common.{◌≡◌, ◌++◌, drop, map, string_bytes}
use Rattle.tick_play.specs.Lines.{status_lines, status_text}
use Rattle.tick_play.proofs.report.push_statuses.Given as goal

abbrev pub invariant-loop-process : goal.invariant-loop-process
invariant-loop-process l =
    string_bytes l.text ++ status_lines l.process (map status_text (drop l.process l.statuses))
    ≡ string_bytes l.fn.text ++ status_lines 0 (map status_text l.statuses)
