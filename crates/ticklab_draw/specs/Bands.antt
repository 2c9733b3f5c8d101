-- The bands of a picture: each has a lane for the processes of whose marks it shows one. A picture that shows no mark has one
-- band, in which each process has a lane.
use Rattle.std.specs.Prelude.{ℕ, ◌+◌, ◌==◌, true, if◌then◌else◌, List, [], ◌∷◌, ◌++◌, slice_set}
use Rattle.ticklab_draw.specs.declared.bands.Lanes.{Lanes}
use Rattle.ticklab_draw.specs.declared.columns.Column.{Column}
use Rattle.ticklab_draw.specs.declared.look.Look.{Look}
use Rattle.ticklab_draw.specs.declared.mark.Mark.{Mark}
use Rattle.ticklab_draw.specs.Chosen.{chosen_count, is_chosen}
use Rattle.ticklab_draw.specs.LaneSets.{all_lanes, lane_count, no_lanes}
use Rattle.ticklab_draw.specs.Layout.{column_at}

-- with a lane of the process of a mark, where that is shown
abbrev pub with_mark : Look → Mark → Lanes → Lanes
with_mark look m lanes = if is_chosen look m then record { above = lanes.above; has = slice_set lanes.has m.process true } else lanes

-- the first band, before its marks
abbrev pub first_lanes : Look → ℕ → List Mark → Lanes
first_lanes look n marks = record { above = 0; has = if chosen_count look marks == 0 then all_lanes n else no_lanes }

-- the band below one, before its marks
abbrev pub lanes_below : Lanes → Lanes
lanes_below lanes = record { above = lanes.above + lane_count lanes.has; has = no_lanes }

-- the band of the next mark, which has so many above it: the one of this number, or the one below; and that one, where it is over
abbrev pub lanes_next : ℕ → ℕ → Lanes → Lanes
lanes_next number next lanes = if number == next then lanes else lanes_below lanes

abbrev pub lanes_over : ℕ → ℕ → Lanes → List Lanes
lanes_over number next lanes = if number == next then [] else lanes ∷ []

-- the bands from the one of this number on, where these marks come next, the first of which has this place among all
abbrev pub lanes_from : Look → List Column → ℕ → Lanes → ℕ → List Mark → List Lanes
lanes_from look columns number lanes at [] = lanes ∷ []
lanes_from look columns number lanes at (m ∷ marks) =
    lanes_over number (column_at columns at).band.number lanes
    ++ lanes_from look columns (column_at columns at).band.number
    (with_mark look m (lanes_next number (column_at columns at).band.number lanes)) (at + 1) marks

-- all bands, by the columns of all marks
abbrev pub bands : Look → ℕ → List Column → List Mark → List Lanes
bands look n columns marks = lanes_from look columns 0 (first_lanes look n marks) 0 marks
