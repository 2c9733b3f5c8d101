-- Arrows from puts to the gets that read them. They go where no text stands: in the gutters between columns, and on tracks
-- between two lanes.
use Rattle.std.specs.Prelude.{ℕ, ◌+◌, ◌-◌, ◌==◌, nat_lt, if◌then◌else◌, List, [], ◌++◌, codes, slice_get, Option, Some, None}
use Rattle.ticklab_draw.specs.declared.arrows.TheConstants.{ARROW, ARROW_END, DOWN_TO_RIGHT, FROM_STEP, RIGHT_TO_DOWN, RIGHT_TO_UP, UP_TO_RIGHT}
use Rattle.ticklab_draw.specs.declared.bands.Lanes.{Lanes}
use Rattle.ticklab_draw.specs.declared.columns.Column.{Column}
use Rattle.ticklab_draw.specs.declared.look.Look.{Look}
use Rattle.ticklab_draw.specs.declared.mark.Mark.{Mark}
use Rattle.ticklab_draw.specs.declared.mark.Sight.{Sight}
use Rattle.ticklab_draw.specs.declared.mark.Sight.TheVariants as S
use Rattle.ticklab_draw.specs.Chosen.{is_chosen}
use Rattle.ticklab_draw.specs.Layout.{column_at, from_y, in_x, leave_x, leave_y, out_x, reach_x, sign_y, way_y}
use Rattle.ticklab_draw.specs.Steps.{step_text}
use Rattle.ticklab_draw.specs.Writing.{one_number, two_numbers}

-- on the way to the right, from one height to another at this place, round both corners
unfoldable pub turn : ℕ → ℕ → ℕ → List ℕ
turn x y to =
    if y == to then []
    else if nat_lt y to then two_numbers (codes "H") (x - 4) RIGHT_TO_DOWN.now (to - 4) DOWN_TO_RIGHT.now
    else two_numbers (codes "H") (x - 4) RIGHT_TO_UP.now (to + 4) UP_TO_RIGHT.now

-- From the put of this place, in its column, to the get in another column of its band: out of the
-- sign into the gutter behind its column, there to the height of the way, along it to the gutter before the get, there to the
-- lane, and to the sign.
unfoldable pub route_text : List Lanes → ℕ → Column → Column → List ℕ
route_text bands from c d =
    let leave = leave_y (sign_y bands c) (way_y bands from c d) in
    two_numbers ARROW.now (leave_x c) (codes " ") leave [] ++ turn (out_x c) leave (way_y bands from c d)
    ++ turn (in_x d) (way_y bands from c d) (sign_y bands d)
    ++ one_number (codes "H") (reach_x d) ARROW_END.now

-- what stands for it at a get whose put is of an earlier band, or isn't shown
unfoldable pub from_text : List Lanes → Column → ℕ → List ℕ
from_text bands d step = step_text d.x (from_y bands d) FROM_STEP.now step

-- to the get in a column from the put of a step, in that of another place
unfoldable pub arrow_from : List Lanes → ℕ → Column → Column → ℕ → List ℕ
arrow_from bands from c d step = if c.band.number == d.band.number then route_text bands from c d else from_text bands d step

-- the put that is read, by its place
abbrev pub read_from : Sight → Option ℕ
read_from (S.Get r i v put) = put
read_from sight = None

abbrev pub arrow_of : Look → List Lanes → List Column → Column → ℕ → Option Mark → List ℕ
arrow_of look bands columns d from None = []
arrow_of look bands columns d from (Some put) =
    if is_chosen look put then arrow_from bands from (column_at columns from) d put.step else from_text bands d put.step

abbrev pub arrow_by : Look → List Lanes → List Column → Column → List Mark → Option ℕ → List ℕ
arrow_by look bands columns d marks None = []
arrow_by look bands columns d marks (Some from) = arrow_of look bands columns d from (slice_get marks from)

-- the arrow to a mark in its column, where it is a get of what one of these marks put
abbrev pub arrow_text : Look → List Lanes → List Column → Column → Mark → List Mark → List ℕ
arrow_text look bands columns d m marks = arrow_by look bands columns d marks (read_from m.sight)
