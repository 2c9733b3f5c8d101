use Rattle.std.proofs.Common.{◌≡◌, ◌++◌, drop, map, Some, string_bytes}
use Rattle.ticklab_trace.specs.TraceText.{ranks_text}
use Rattle.ticklab_trace.proofs.wording.push_ranks.Given as goal

abbrev pub invariant-loop-rank : goal.invariant-loop-rank
invariant-loop-rank l =
    string_bytes l.text ++ ranks_text (map (λ rank. Some rank) (drop l.rank-index l.told)) ≡ string_bytes l.fn.text ++ ranks_text (map (λ rank. Some rank) l.told)
