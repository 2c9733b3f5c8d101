-- The words at a frame: the move above it; the labels and the order under it.
use Rattle.std.specs.Prelude.{ℕ, zero, suc, ◌+◌, ◌-◌, ◌==◌, Bool, true, false, Option, None, Some, List, [], ◌∷◌, ◌++◌, codes, length, map, if◌then◌else◌}
use Rattle.base.specs.Lines.{spaced}
use Rattle.ticket_core.specs.declared.moves.Move.{Move}
use Rattle.ticket_core.specs.declared.moves.Move.TheVariants.{Stamp, Clear}
use Rattle.word_core.specs.Order.{label_ranks}
use Rattle.word_core.specs.Stamps.{Labels}
use Rattle.ticklab_draw.specs.declared.labels.caption.TheConstants.{LABELS, ORDER, TOLD_AT}
use Rattle.ticklab_draw.specs.declared.labels.frame_text.TheConstants.{CLEARED, MOVE, STAMPED, START}
use Rattle.ticklab_draw.specs.declared.pieces.TheConstants.{TEXT_END}
use Rattle.ticklab_draw.specs.declared.writing.TheConstants.{LESS_THAN}
use Rattle.ticklab_draw.specs.labels.Layout.{is_nested, frame_height}
use Rattle.ticklab_draw.specs.Words.{label_text}
use Rattle.ticklab_draw.specs.Writing.{one_number, two_numbers}

unfoldable pub heading_text : ℕ → Option Move → List ℕ
heading_text at None = START.now
heading_text at (Some (Stamp p)) = two_numbers MOVE.now at STAMPED.now p TEXT_END.now
heading_text at (Some (Clear p)) = two_numbers MOVE.now at CLEARED.now p TEXT_END.now

-- the beginning of a line of words, so far above the lower end of the frame
abbrev pub line_begin : ℕ → ℕ → List ℕ → List ℕ
line_begin n above words = one_number TOLD_AT.now (frame_height n - above) words

unfoldable pub labels_told : Labels → List ℕ
labels_told labels = line_begin (length labels) 38 LABELS.now ++ spaced (map label_text labels) ++ TEXT_END.now

-- a table shows them above
abbrev pub labels_line : Labels → List ℕ
labels_line labels = if is_nested (length labels) then labels_told labels else []

-- what stands before a process: `<` before the first of its rank, but for the lowest, and else a comma
abbrev pub mark_before : ℕ → Bool → List ℕ
mark_before rank first = if first then (if rank == 0 then [] else LESS_THAN.now) else codes ","

-- the processes of this rank, from process `p` on, where `first` tells that there was none before
abbrev pub ranked_text : ℕ → Bool → ℕ → List ℕ → List ℕ
ranked_text rank first p [] = []
ranked_text rank first p (other ∷ ranks) =
    if other == rank then one_number (mark_before rank first) p [] ++ ranked_text rank false (p + 1) ranks
    else ranked_text rank first (p + 1) ranks

-- the processes below this rank, the oldest first
abbrev pub order_text : List ℕ → ℕ → List ℕ
order_text ranks zero = []
order_text ranks (suc rank) = order_text ranks rank ++ ranked_text rank true 0 ranks

abbrev pub order_of : Labels → List ℕ
order_of labels = order_text (label_ranks labels) (length (label_ranks labels))

unfoldable pub order_line : Labels → List ℕ
order_line labels = line_begin (length labels) 20 ORDER.now ++ order_of labels ++ TEXT_END.now
