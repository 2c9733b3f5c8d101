-- What `order` answers: the labels that stamps and clears leave, beside the ranks of the whole-number
-- tickets.
use Rattle.std.specs.Prelude.{ℕ, ◌==◌, Option, None, Some, List, [], ◌∷◌, ◌++◌, codes, length, map, if◌then◌else◌}
use Rattle.std.specs.Fmt.{decimal}
use Rattle.std.specs.List.{flat_map}
use Rattle.base.specs.Lines.{line_end, spaced}
use Rattle.ticket_core.specs.Tickets.{start_tickets, ticket_ranks, tickets_moved}
use Rattle.ticket_core.specs.declared.moves.Move.{Move}
use Rattle.ticket_core.specs.declared.moves.Move.TheVariants.{Stamp, Clear}
use Rattle.word_core.specs.Stamps.{Labels, labels_moved, moved, start_labels}
use Rattle.word_core.specs.Packed.{word}
use Rattle.language_schedules.specs.Moves.{moves_of}
use Rattle.ticketc_answers.specs.Answer.{Answer, scheduled}

abbrev pub move_text : Move → List ℕ
move_text (Stamp p) = codes "stamp " ++ decimal p
move_text (Clear p) = codes "clear " ++ decimal p

-- a move, and the word of the labels that it left
abbrev pub move_line : Move → Labels → List ℕ
move_line move labels = move_text move ++ codes " word " ++ decimal (word labels) ++ line_end

-- a line for each move, from these labels on
abbrev pub move_lines : Labels → List Move → List ℕ
move_lines labels [] = []
move_lines labels (move ∷ moves) = move_line move (moved move labels) ++ move_lines (moved move labels) moves

-- the digits of a label, a dash where it has none, and a dot for an absent process
abbrev pub label_text : Option (List ℕ) → List ℕ
label_text None = codes "."
label_text (Some label) = if length label == 0 then codes "-" else flat_map decimal label

-- the word of these labels, the labels, and these ranks
abbrev pub state_lines : Labels → List ℕ → List ℕ
state_lines labels ranks =
    codes "word " ++ decimal (word labels) ++ line_end
    ++ codes "labels" ++ spaced (map label_text labels) ++ line_end
    ++ codes "ranks" ++ spaced (map decimal ranks) ++ line_end

-- the labels are those of the choice rule, and the ranks those of the tickets
abbrev pub moves_text : ℕ → List Move → List ℕ
moves_text n moves =
    codes "layout 3" ++ line_end
    ++ move_lines (start_labels n) moves
    ++ state_lines (labels_moved (start_labels n) moves) (ticket_ranks (tickets_moved (start_tickets n) moves))

-- for `n` processes and the moves that a text spells
abbrev pub order_answer : ℕ → List ℕ → Answer
order_answer n text = scheduled (moves_text n) (moves_of n text)
