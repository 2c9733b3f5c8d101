use Rattle.std.proofs.Common.{◌≡◌, ◌++◌, drop, map, string_bytes}
use Rattle.tick_play.specs.Lines.{status_lines}
use Rattle.tick_play.specs.Outcome.{end_text}
use Rattle.tick_play.proofs.outcome.push_ends.Given as goal

abbrev pub invariant-loop-process : goal.invariant-loop-process
invariant-loop-process l =
    string_bytes l.text ++ status_lines l.process (map end_text (drop l.process l.ends))
    ≡ string_bytes l.fn.text ++ status_lines 0 (map end_text l.ends)
