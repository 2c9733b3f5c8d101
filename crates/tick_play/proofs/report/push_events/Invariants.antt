use Rattle.std.proofs.Common.{◌≡◌, ◌++◌, drop, string_bytes}
use Rattle.tick_play.specs.Report.{event_lines}
use Rattle.tick_play.proofs.report.push_events.Given as goal

abbrev pub invariant-loop-event : goal.invariant-loop-event
invariant-loop-event l =
    string_bytes l.text ++ event_lines l.n (drop l.event-index l.events) ≡ string_bytes l.fn.text ++ event_lines l.n l.events
