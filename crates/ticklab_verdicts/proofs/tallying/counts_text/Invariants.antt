use Rattle.std.proofs.Common.{◌≡◌, ◌++◌, drop, string_bytes}
use Rattle.ticklab_verdicts.specs.Lines.{count_texts}
use Rattle.ticklab_verdicts.proofs.tallying.counts_text.Given as goal

abbrev pub invariant-loop-counted : goal.invariant-loop-counted
invariant-loop-counted l =
    string_bytes l.text ++ count_texts l.times (drop l.counted-index l.counts) ≡ count_texts l.times l.counts
