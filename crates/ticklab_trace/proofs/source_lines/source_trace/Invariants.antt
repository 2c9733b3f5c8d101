use Rattle.std.proofs.Common.{◌≡◌, ◌+◌, ◌++◌, drop, map, string_bytes}
use Rattle.ticklab_trace.specs.Places.{told_standing}
use Rattle.ticklab_trace.specs.TraceText.{statement_lines}
use Rattle.ticklab_trace.proofs.source_lines.source_trace.Given as goal

abbrev pub invariant-loop-number : goal.invariant-loop-number
invariant-loop-number l =
    string_bytes l.text ++ statement_lines l.program (map told_standing l.spots) l.parts (l.before + l.number) (drop l.number l.steps)
    ≡ statement_lines l.program (map told_standing l.spots) l.parts l.before l.steps
