-- The lanes of each band, as long as its columns need, with the names of the processes; and how each process ended, beside the
-- last of its lanes. There are `n` processes, and these bands.
use Rattle.std.specs.Prelude.{ℕ, zero, suc, ◌+◌, ◌==◌, if◌then◌else◌, List, [], ◌∷◌, ◌++◌, codes, Option, Some, None}
use Rattle.base.specs.declared.event.Act.{Act}
use Rattle.base.specs.declared.event.Act.TheVariants as A
use Rattle.base.specs.declared.status.Status.{Status}
use Rattle.base.specs.declared.status.Status.TheVariants as T
use Rattle.tick_play.specs.Lines.{trap_text}
use Rattle.ticklab_draw.specs.declared.bands.Lanes.{Lanes}
use Rattle.ticklab_draw.specs.declared.columns.Column.{Column}
use Rattle.ticklab_draw.specs.declared.lanes.TheConstants.{AT_X, CAPTION_AT, ENDED, FROM_EDGE, LANE, NAME_AT, ORDER, PROCESS, RUNNING, STATUS, STEP, TRAP, TRAP_STATUS}
use Rattle.ticklab_draw.specs.declared.mark.Mark.{Mark}
use Rattle.ticklab_draw.specs.declared.mark.Sight.{Sight}
use Rattle.ticklab_draw.specs.declared.mark.Sight.TheVariants as S
use Rattle.ticklab_draw.specs.declared.pieces.TheConstants.{AND_COLOUR, AND_Y, PATH_END, TEXT_END}
use Rattle.ticklab_draw.specs.Colours.{colour, stroke}
use Rattle.ticklab_draw.specs.LaneSets.{is_lane, lane_of, lanes_at}
use Rattle.ticklab_draw.specs.Layout.{beside_x, edge, end_x, lane_y, order_y, step_y}
use Rattle.ticklab_draw.specs.Writing.{one_number, two_numbers}

-- the line of a process at this height up to this place, in its colour
unfoldable pub lane_line : ℕ → ℕ → ℕ → List ℕ
lane_line y end p = stroke LANE.now p ++ one_number FROM_EDGE.now y (codes "H") ++ one_number [] end PATH_END.now

-- its name, in its colour
unfoldable pub lane_name : ℕ → ℕ → List ℕ
lane_name y p = one_number NAME_AT.now y AND_COLOUR.now ++ colour p ++ one_number PROCESS.now p TEXT_END.now

unfoldable pub lane_text : ℕ → ℕ → ℕ → List ℕ
lane_text y end p = lane_line y end p ++ lane_name (y + 5) p

-- the lane of process `p` in the band that ends with this column, where it has one; and those of the processes below `p`
unfoldable pub lane_of_process : List Lanes → Column → ℕ → List ℕ
lane_of_process bands c p =
    if is_lane (lanes_at bands c.band).has p
    then lane_text (lane_y bands c.band (lane_of (lanes_at bands c.band).has p)) (end_x c) p
    else []

abbrev pub lanes_text : List Lanes → Column → ℕ → List ℕ
lanes_text bands c zero = []
lanes_text bands c (suc p) = lanes_text bands c p ++ lane_of_process bands c p

-- words at the left edge
unfoldable pub caption : ℕ → List ℕ → List ℕ
caption y words = one_number CAPTION_AT.now y (codes "\">") ++ words ++ TEXT_END.now

-- the band that ends with this column: its lanes, and what stands below them
unfoldable pub band_text : List Lanes → ℕ → Column → List ℕ
band_text bands n c =
    lanes_text bands c n ++ caption (order_y bands c.band) ORDER.now ++ caption (step_y bands c.band) STEP.now

-- the bands from that of this column on, behind which these stand
abbrev pub bands_from : List Lanes → ℕ → Column → List Column → List ℕ
bands_from bands n c [] = band_text bands n c
bands_from bands n c (d ∷ columns) = (if c.band.number == d.band.number then [] else band_text bands n c) ++ bands_from bands n d columns

abbrev pub bands_text : List Lanes → ℕ → List Column → List ℕ
bands_text bands n columns = bands_from bands n edge columns

-- how a process stands after an act, and after what a mark shows
abbrev pub ended_by : Status → Act → Status
ended_by status A.End = T.Ended
ended_by status (A.Trap trap) = T.Trapped trap
ended_by status act = status

abbrev pub ended : Status → Sight → Status
ended status (S.Act act) = ended_by status act
ended status sight = status

-- how process `p` stands after these marks, from so on
abbrev pub end_from : ℕ → Status → List Mark → Status
end_from p status [] = status
end_from p status (m ∷ marks) = end_from p (if m.process == p then ended status m.sight else status) marks

abbrev pub end_of : ℕ → List Mark → Status
end_of p marks = end_from p T.Running marks

abbrev pub end_style : Status → List ℕ
end_style (T.Trapped trap) = TRAP_STATUS.now
end_style status = STATUS.now

abbrev pub end_words : Status → List ℕ
end_words T.Running = RUNNING.now
end_words T.Ended = ENDED.now
end_words (T.Trapped trap) = TRAP.now ++ trap_text trap

-- a status at this place
unfoldable pub end_text : ℕ → ℕ → Status → List ℕ
end_text x y status =
    end_style status ++ two_numbers AT_X.now x AND_Y.now y (codes "\">") ++ end_words status ++ TEXT_END.now

-- the column with which the last lane of process `p` ends: this one, or that of the last of these whose band has such a lane
abbrev pub lane_end : List Lanes → ℕ → Option Column → Column → Option Column
lane_end bands p found c = if is_lane (lanes_at bands c.band).has p then Some c else found

abbrev pub lane_end_from : List Lanes → ℕ → Option Column → List Column → Option Column
lane_end_from bands p found [] = found
lane_end_from bands p found (c ∷ columns) = lane_end_from bands p (lane_end bands p found c) columns

unfoldable pub last_lane : List Lanes → ℕ → List Column → Option Column
last_lane bands p columns = lane_end_from bands p (lane_end bands p None edge) columns

-- that of process `p` after these marks, beside its lane that ends with this column
unfoldable pub end_beside : List Lanes → ℕ → List Mark → Option Column → List ℕ
end_beside bands p marks None = []
end_beside bands p marks (Some c) =
    end_text (beside_x c) (lane_y bands c.band (lane_of (lanes_at bands c.band).has p) + 4) (end_of p marks)

-- those of the processes below `p`
abbrev pub ends_text : List Lanes → List Column → List Mark → ℕ → List ℕ
ends_text bands columns marks zero = []
ends_text bands columns marks (suc p) = ends_text bands columns marks p ++ end_beside bands p marks (last_lane bands p columns)
