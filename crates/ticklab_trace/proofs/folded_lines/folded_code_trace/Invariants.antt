use Rattle.std.proofs.Common.{◌≡◌, ◌++◌, drop, string_bytes}
use Rattle.ticklab_trace.specs.FoldedText.{folded_instructions, instructions_in}
use Rattle.ticklab_trace.proofs.folded_lines.folded_code_trace.Given as goal

abbrev pub invariant-loop-number : goal.invariant-loop-number
invariant-loop-number l =
    string_bytes l.text ++ instructions_in l.program l.left l.number (drop l.number l.steps) ≡ folded_instructions l.program l.steps
