use Rattle.std.proofs.Common.{◌≡◌, ◌++◌, replicate}
use Rattle.ticklab_explain.proofs.writing.push_often.Given as goal

abbrev pub invariant-times : goal.invariant-times
invariant-times l = l.out.items ≡ l.fn.out.items ++ replicate l.counter l.byte
