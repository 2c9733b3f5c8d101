use Rattle.std.proofs.Common.{◌≡◌, ◌++◌, string_bytes}
use Rattle.ticklab_trace.specs.TraceText.{ranks_to, label_rank}
use Rattle.ticklab_trace.proofs.code_lines.push_order.Given as goal

abbrev pub invariant-loop-i : goal.invariant-loop-i
invariant-loop-i l = string_bytes l.text ≡ string_bytes l.initial.text ++ ranks_to (label_rank l.labels) l.i
