-- The frames of stamps and clears: the start, and a frame after each move.
use Rattle.std.specs.Prelude.{ℕ, None, Some, List, [], ◌∷◌}
use Rattle.ticket_core.specs.declared.moves.Move.{Move}
use Rattle.word_core.specs.Stamps.{Labels, moved, start_labels}
use Rattle.ticklab_draw.specs.declared.labels.run.Frame.{Frame}

-- the frames after these moves in turn, from these labels on
abbrev pub frames_from : Labels → List Move → List Frame
frames_from labels [] = []
frames_from labels (move ∷ moves) =
    record { made = Some move; labels = moved move labels } ∷ frames_from (moved move labels) moves

-- the start, where nobody has a label, and the frame after each move
abbrev pub frames_of : ℕ → List Move → List Frame
frames_of n moves = record { made = None; labels = start_labels n } ∷ frames_from (start_labels n) moves
