-- Where things stand on the page: each mark in a column of its own, in the lane of its process. Bands of columns
-- stand one below the other, each with lanes of its own. `Columns`, `Lanes`, `Feet`, `Arrows`, `Shapes` and `Never` say what is
-- shown there, without these numbers.
use Rattle.std.specs.Prelude.{ℕ, Bool, ◌+◌, ◌-◌, ◌*◌, ◌/◌, ◌%◌, ◌==◌, ◌&&◌, max, min, nat_lt, if◌then◌else◌, List, [], ◌∷◌, length, slice_get, Option, Some, None}
use Rattle.ticklab_draw.specs.declared.bands.Lanes.{Lanes}
use Rattle.ticklab_draw.specs.declared.columns.Band.{Band}
use Rattle.ticklab_draw.specs.declared.columns.Column.{Column}
use Rattle.ticklab_trace.specs.declared.parts.Part.{Part}
use Rattle.ticklab_trace.specs.declared.parts.Part.TheVariants.{Schedule}
use Rattle.ticklab_trace.specs.Parts.{is_same}
use Rattle.ticklab_draw.specs.LaneSets.{lane_count, lane_of, lanes_at}

-- the place where the lanes of the first band begin, as a column that has no width
abbrev pub edge : Column
edge = record { band = record { number = 0; heads = 0 }; x = 50; half = 0; process = 0; part = Schedule }

-- where a column begins and ends
abbrev pub left_x : Column → ℕ
left_x c = c.x - c.half

abbrev pub right_x : Column → ℕ
right_x c = c.x + c.half

-- a page is so wide at least that is to have this width
abbrev pub page_least : ℕ → ℕ
page_least width = min 20000 (max 300 width)

-- how far its bands reach: beside them stands how each process ended
abbrev pub band_end : ℕ → ℕ
band_end width = page_least width - 120

-- the band below that of a column; where this has no column yet, it is that band itself
abbrev pub band_below : Column → Band
band_below c =
    if nat_lt 50 (right_x c) then record { number = c.band.number + 1; heads = c.band.heads } else c.band

-- a band with the head of a part above it
abbrev pub headed : Band → Band
headed band = record { number = band.number; heads = band.heads + 1 }

-- the first column of a band
abbrev pub first_column : Band → ℕ → Part → ℕ → Column
first_column band p part half = record { band = band; x = 64 + half; half = half; process = p; part = part }

-- The column behind another, of a mark of process `p`, so wide on each side. A gutter lies between both. Where it would pass the end of the
-- band, it is the first of the next one; but no band is empty. It is so too where it is of another part, and there a head
-- stands above that band.
abbrev pub next_column : ℕ → ℕ → Part → Column → ℕ → Column
next_column end p part c half =
    if is_same part c.part
    then (if nat_lt 50 (right_x c) && nat_lt end (right_x c + 14 + 2 * half)
    then first_column (band_below c) p part half
    else record { band = c.band; x = right_x c + 14 + half; half = half; process = p; part = part })
    else first_column (headed (band_below c)) p part half

-- the width of a page: that of the widest band and what stands beside it, where that is more
abbrev pub widest : ℕ → List Column → ℕ
widest width [] = width
widest width (c ∷ columns) = widest (max width (right_x c + 120)) columns

abbrev pub page_width : ℕ → List Column → ℕ
page_width width columns = widest (page_least width) columns

-- the column of the mark of this place, counted from 0, and the last one
abbrev pub column_or : Option Column → Column
column_or None = edge
column_or (Some c) = c

abbrev pub column_at : List Column → ℕ → Column
column_at columns at = column_or (slice_get columns at)

abbrev pub last_column : List Column → Column
last_column columns = column_at columns (length columns - 1)

-- the band of the first of these columns that has a width, which may have a head above it; and its edge
abbrev pub first_band : List Column → Band
first_band [] = edge.band
first_band (c ∷ columns) = if nat_lt 50 (right_x c) then c.band else first_band columns

abbrev pub first_edge : List Column → Column
first_edge columns = record { band = first_band columns; x = 50; half = 0; process = 0; part = Schedule }

-- that of the last of so many marks; where no mark has a column yet, the edge
abbrev pub last_of : List Column → ℕ → Column
last_of columns count = if count == 0 then edge else column_at columns (count - 1)

abbrev pub column_behind : List Column → ℕ → Column
column_behind columns count =
    if nat_lt 50 (right_x (last_of columns count)) then last_of columns count else first_edge columns

-- in the gutter behind a column: an arrow that leaves it, a line behind it, and the end of the lanes; and how a process
-- ended, beside them
abbrev pub out_x : Column → ℕ
out_x c = right_x c + 4

abbrev pub behind_x : Column → ℕ
behind_x c = right_x c + 7

abbrev pub end_x : Column → ℕ
end_x c = right_x c + 14

abbrev pub beside_x : Column → ℕ
beside_x c = right_x c + 21

-- in the gutter before a column: an arrow that comes to it
abbrev pub in_x : Column → ℕ
in_x c = left_x c - 4

-- where an arrow leaves the sign of a put: beside its lane, on the side to which it goes; and where it comes to a sign
abbrev pub leave_x : Column → ℕ
leave_x c = c.x + 7

abbrev pub leave_y : ℕ → ℕ → ℕ
leave_y lane way = if way == lane then lane else if nat_lt way lane then lane - 5 else lane + 5

abbrev pub reach_x : Column → ℕ
reach_x c = c.x - 9

-- how far from the top a band begins: below the bands, with their lanes, and the heads that stand above it
abbrev pub band_top : List Lanes → Band → ℕ
band_top bands band = 44 + 52 * band.number + 92 * (lanes_at bands band).above + 30 * band.heads

-- and where its lanes end
abbrev pub band_foot : List Lanes → Band → ℕ
band_foot bands band = band_top bands band + 92 * lane_count (lanes_at bands band).has

-- a lane, by how many of the band stand above it
abbrev pub lane_y : List Lanes → Band → ℕ → ℕ
lane_y bands band lane = band_top bands band + 52 + 92 * lane

-- the lane of a column, and its height
abbrev pub lane_in : List Lanes → Column → ℕ
lane_in bands c = lane_of (lanes_at bands c.band).has c.process

abbrev pub sign_y : List Lanes → Column → ℕ
sign_y bands c = lane_y bands c.band (lane_in bands c)

-- below the lanes of a band: the order of tickets, and the number of the step
abbrev pub order_y : List Lanes → Band → ℕ
order_y bands band = band_foot bands band + 10

abbrev pub step_y : List Lanes → Band → ℕ
step_y bands band = band_foot bands band + 28

-- words above the lanes of a band
abbrev pub above_y : List Lanes → Band → ℕ
above_y bands band = band_top bands band - 3

-- the head above a band: where its strip begins, and its words
abbrev pub strip_y : List Lanes → Band → ℕ
strip_y bands band = band_top bands band - 36

abbrev pub head_y : List Lanes → Band → ℕ
head_y bands band = band_top bands band - 22

-- below the words of a mark: from which step of an earlier band its value is
abbrev pub from_y : List Lanes → Column → ℕ
from_y bands c = sign_y bands c + 33

-- The lane above which an arrow from lane `q` to lane `p` goes, on the side from which it comes; and how far above
-- it. There are six tracks, by the place of the put.
abbrev pub track_lane : ℕ → ℕ → ℕ
track_lane q p = if nat_lt p q then p + 1 else p

abbrev pub track_y : List Lanes → Band → ℕ → ℕ → ℕ
track_y bands band lane from = lane_y bands band lane - (32 + 3 * (from % 6))

-- the height at which an arrow goes from the put of this place, in its column, to the get in another: a track, or the lane of the
-- get where that is the next column
abbrev pub way_y : List Lanes → ℕ → Column → Column → ℕ
way_y bands from c d =
    if left_x d == end_x c then sign_y bands d else track_y bands c.band (track_lane (lane_in bands c) (lane_in bands d)) from

-- half the width of so many letters
abbrev pub letters_half : ℕ → ℕ
letters_half letters = (7 * letters + 1) / 2

-- half the width of a stamp's field, in which so many letters stand
abbrev pub field_half : ℕ → ℕ
field_half letters = 5 + 4 * max letters 2

-- a flag with so many letters, and the middle of it
abbrev pub flag_width : ℕ → ℕ
flag_width letters = 14 + 7 * letters

abbrev pub flag_middle : ℕ → ℕ
flag_middle letters = 5 + (7 * letters) / 2

-- as high as all bands, and the legend below them, which a narrow page has in more lines
abbrev pub is_narrow : ℕ → Bool
is_narrow width = nat_lt width 1000

abbrev pub legend_height : ℕ → ℕ
legend_height width = if is_narrow width then 168 else 68

abbrev pub page_height : List Lanes → Band → ℕ → ℕ
page_height bands last width = band_foot bands last + 52 + legend_height width
