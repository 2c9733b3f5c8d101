use Rattle.std.proofs.Common.{◌≡◌, ◌++◌, drop, string_bytes}
use Rattle.ticklab_trace.specs.TraceText.{instruction_lines}
use Rattle.ticklab_trace.proofs.code_lines.code_trace.Given as goal

abbrev pub invariant-loop-number : goal.invariant-loop-number
invariant-loop-number l =
    string_bytes l.text ++ instruction_lines l.program l.number (drop l.number l.steps) ≡ instruction_lines l.program 0 l.steps
