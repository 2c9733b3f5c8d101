use Rattle.std.proofs.Common.{◌≡◌, ◌++◌, replicate, string_bytes}
use Rattle.ticklab_trace.proofs.columns.push_blanks.Given as goal

abbrev pub invariant-times : goal.invariant-times
invariant-times l = string_bytes l.text ≡ string_bytes l.fn.text ++ replicate l.counter 32
