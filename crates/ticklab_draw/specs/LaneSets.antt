-- The lanes of a band: which of six processes have one in it, and how many lanes stand in the bands above.
use Rattle.std.specs.Prelude.{ℕ, zero, suc, Bool, true, false, ◌+◌, if◌then◌else◌, List, Option, Some, None, replicate, slice_get, slice_set, unwrap_or}
use Rattle.std.specs.List.{count_by}
use Rattle.ticklab_draw.specs.declared.bands.Lanes.{Lanes}
use Rattle.ticklab_draw.specs.declared.columns.Band.{Band}

abbrev pub no_lanes : List Bool
no_lanes = replicate 6 false

-- a lane for each process below `p`
abbrev pub all_lanes : ℕ → List Bool
all_lanes zero = no_lanes
all_lanes (suc p) = slice_set (all_lanes p) p true

-- whether process `p` has one
abbrev pub is_lane : List Bool → ℕ → Bool
is_lane has p = unwrap_or (slice_get has p) false

-- how many lanes of these stand above that of process `p`
abbrev pub lane_of : List Bool → ℕ → ℕ
lane_of has zero = 0
lane_of has (suc p) = if is_lane has p then lane_of has p + 1 else lane_of has p

-- how many there are
abbrev pub lane_count : List Bool → ℕ
lane_count has = count_by (λ lane. lane) has

-- the lanes of a band, where these are those of each
abbrev pub lanes_or : Option Lanes → Lanes
lanes_or None = record { above = 0; has = no_lanes }
lanes_or (Some lanes) = lanes

abbrev pub lanes_at : List Lanes → Band → Lanes
lanes_at bands band = lanes_or (slice_get bands band.number)
