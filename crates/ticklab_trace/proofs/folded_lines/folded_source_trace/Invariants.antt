use Rattle.std.proofs.Common.{◌≡◌, ◌+◌, ◌++◌, drop, map, string_bytes}
use Rattle.ticklab_trace.specs.FoldedText.{folded_statements, statements_in}
use Rattle.ticklab_trace.specs.Places.{told_standing}
use Rattle.ticklab_trace.proofs.folded_lines.folded_source_trace.Given as goal

abbrev pub invariant-loop-number : goal.invariant-loop-number
invariant-loop-number l =
    string_bytes l.text ++ statements_in l.program (map told_standing l.spots) l.parts l.left (l.before + l.number) (drop l.number l.steps)
    ≡ folded_statements l.program (map told_standing l.spots) l.parts l.before l.steps
