use Rattle.std.proofs.Common.{◌≡◌, ◌++◌, drop, string_bytes}
use Rattle.ticklab_explain.specs.Hints.{text_of}
use Rattle.ticklab_explain.specs.Rows.{pieces_of}
use Rattle.ticklab_explain.specs.Settings.{setting}
use Rattle.ticklab_explain.proofs.piece.push_pieces.Given as goal

abbrev pub invariant-loop-quote : goal.invariant-loop-quote
invariant-loop-quote l =
    string_bytes l.text ++ text_of (setting l.scene) (pieces_of (drop l.quote-index l.pieces))
    ≡ string_bytes l.fn.text ++ text_of (setting l.scene) (pieces_of l.pieces)
