use Rattle.std.proofs.Common.{◌≡◌, ◌++◌, drop, string_bytes}
use Rattle.ticklab_explain.specs.Pieces.{joined_now}
use Rattle.ticklab_explain.proofs.writing.push_all.Given as goal

abbrev pub invariant-loop-piece : goal.invariant-loop-piece
invariant-loop-piece l =
    string_bytes l.text ++ joined_now (drop l.piece-index l.pieces) ≡ string_bytes l.fn.text ++ joined_now l.pieces
