-- What holds of the frames of all moves.
use Rattle.std.specs.Prelude.{◌≡◌, ℕ, ◌≤◌, List, length, slice_get, take, Some, option_map}
use Rattle.ticket_core.specs.Tickets.{start_tickets, ticket_ranks, tickets_moved}
use Rattle.ticket_core.specs.declared.moves.Move.{Move}
use Rattle.word_core.specs.Order.{label_ranks}
use Rattle.word_core.specs.Stamps.{labels_moved, start_labels}
use Rattle.ticklab_draw.specs.labels.Frames.{frames_of}

-- frame `k` has the labels after the first `k` moves, and its order is that of the tickets then
abbrev pub FramesLaw : Type 0
FramesLaw = (n : ℕ) (moves : List Move) (k : ℕ) → k ≤ length moves
    → (option_map (λ frame. frame.labels) (slice_get (frames_of n moves) k) ≡ Some (labels_moved (start_labels n) (take k moves)))
    × (option_map (λ frame. label_ranks frame.labels) (slice_get (frames_of n moves) k) ≡ Some (ticket_ranks (tickets_moved (start_tickets n) (take k moves))))
