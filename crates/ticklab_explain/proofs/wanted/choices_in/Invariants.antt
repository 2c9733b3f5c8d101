use Rattle.std.proofs.Common.{◌≡◌, drop, map}
use Rattle.ticklab_explain.specs.Following.{choices_in}
use Rattle.ticklab_explain.specs.Rows.{words_of}
use Rattle.ticklab_explain.proofs.wanted.choices_in.Given as goal

abbrev pub invariant-loop-words : goal.invariant-loop-words
invariant-loop-words l =
    choices_in (map (λ row. (words_of row.0.now, row.1.now)) (drop l.words-index l.rows)) l.word l.other
    ≡ choices_in (map (λ row. (words_of row.0.now, row.1.now)) l.rows) l.word l.other
