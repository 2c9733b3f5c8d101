-- Where each process has its label in a frame: a place in the nested cycles, or a row of digits.
use Rattle.std.specs.Prelude.{ℕ, ◌+◌, ◌==◌, Bool, false, Option, None, Some, List, [], ◌∷◌, ◌++◌, codes, if◌then◌else◌}
use Rattle.ticket_core.specs.declared.moves.Move.{Move}
use Rattle.word_core.specs.Stamps.{Labels}
use Rattle.language_schedules.specs.Moves.{mover}
use Rattle.ticklab_draw.specs.declared.labels.cycles.TheConstants.{ABSENT, GROUP_AT, MOVED, PRESENT, STEP, USE_END}
use Rattle.ticklab_draw.specs.declared.labels.frame_text.TheConstants.{NEST}
use Rattle.ticklab_draw.specs.declared.labels.table.TheConstants.{AND_X, DIGIT, NO_LABEL, ROW_AT, ROW_NAME}
use Rattle.ticklab_draw.specs.declared.pieces.TheConstants.{GROUP_END, WORDS_END}
use Rattle.ticklab_draw.specs.labels.Layout.{is_nested, left_most, top_most, right, below, seat, row_top, cell_left}
use Rattle.ticklab_draw.specs.Writing.{one_number, two_numbers}

abbrev pub is_mover : Option Move → ℕ → Bool
is_mover None p = false
is_mover (Some move) p = mover move == p

-- a mark on the process that moved, and the end of what is drawn of it
unfoldable pub mark_text : Option Move → ℕ → List ℕ
mark_text made p = if is_mover made p then MOVED.now else GROUP_END.now

-- from the left and upper end of a cycle to the place of a digit
unfoldable pub step_text : ℕ → ℕ → ℕ → List ℕ
step_text n level digit = two_numbers STEP.now (right n level digit) (codes " ") (below n level digit) (codes ")")

-- the way into the cycles from this level on, a step for each digit
abbrev pub place_text : ℕ → ℕ → List ℕ → List ℕ
place_text n level [] = []
place_text n level (digit ∷ digits) = step_text n level digit ++ place_text n (level + 1) digits

unfoldable pub absent_text : ℕ → ℕ → List ℕ
absent_text n p = two_numbers GROUP_AT.now (seat n p) ABSENT.now p USE_END.now

-- a process in its place, or beside the cycles
abbrev pub spot_text : ℕ → ℕ → Option (List ℕ) → List ℕ
spot_text n p None = absent_text n p
spot_text n p (Some label) =
    two_numbers GROUP_AT.now (left_most n) (codes " ") (top_most n) (codes ")") ++ place_text n 0 label ++ one_number PRESENT.now p USE_END.now

abbrev pub process_text : ℕ → Option Move → ℕ → Option (List ℕ) → List ℕ
process_text n made p label = spot_text n p label ++ mark_text made p

unfoldable pub cell_text : ℕ → ℕ → List ℕ
cell_text place digit = two_numbers DIGIT.now digit AND_X.now (cell_left place) USE_END.now

-- the digits from this place on
abbrev pub digits_text : ℕ → List ℕ → List ℕ
digits_text place [] = []
digits_text place (digit ∷ digits) = cell_text place digit ++ digits_text (place + 1) digits

abbrev pub cells_text : Option (List ℕ) → List ℕ
cells_text None = NO_LABEL.now
cells_text (Some label) = digits_text 0 label

-- a row of the table
abbrev pub row_text : Option Move → ℕ → Option (List ℕ) → List ℕ
row_text made p label = two_numbers ROW_AT.now (row_top p) ROW_NAME.now p WORDS_END.now ++ cells_text label ++ mark_text made p

abbrev pub figure_text : ℕ → Option Move → ℕ → Option (List ℕ) → List ℕ
figure_text n made p label = if is_nested n then process_text n made p label else row_text made p label

-- each process from `p` on
abbrev pub figures_text : ℕ → Option Move → ℕ → Labels → List ℕ
figures_text n made p [] = []
figures_text n made p (label ∷ labels) = figure_text n made p label ++ figures_text n made (p + 1) labels

unfoldable pub nest_text : ℕ → List ℕ
nest_text n = if is_nested n then NEST.now else []
