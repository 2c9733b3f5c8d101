use Rattle.std.proofs.Common.{◌≡◌, drop, map}
use Rattle.ticklab_explain.specs.Pieces.{beside}
use Rattle.ticklab_explain.proofs.words.beside.Given as goal

abbrev pub invariant-loop-key : goal.invariant-loop-key
invariant-loop-key l =
    beside (map (λ row. (row.0.now, row.1.now)) (drop l.key-index l.rows)) l.word l.other
    ≡ beside (map (λ row. (row.0.now, row.1.now)) l.rows) l.word l.other
