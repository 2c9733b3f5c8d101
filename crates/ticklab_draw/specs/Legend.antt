-- What the picture's signs mean, below all bands.
use Rattle.std.specs.Prelude.{ℕ, zero, suc, ◌+◌, ◌-◌, ◌*◌, ◌==◌, if◌then◌else◌, List, [], ◌++◌}
use Rattle.ticklab_draw.specs.declared.bands.Lanes.{Lanes}
use Rattle.ticklab_draw.specs.declared.columns.Band.{Band}
use Rattle.ticklab_draw.specs.declared.legend.TheConstants.{CLEAR_AND_SCAN, END_AND_LOST, FIRST_LEGEND, GET_AND_ARROW, ORDER_BELOW, OUT_AND_TRAP, PUT_AND_STAMP, SECOND_LEGEND, STEP_BELOW, THIRD_LEGEND, YES_AND_NO}
use Rattle.ticklab_draw.specs.declared.pieces.TheConstants.{PICTURE_END}
use Rattle.ticklab_draw.specs.Lanes.{caption}
use Rattle.ticklab_draw.specs.Layout.{is_narrow, page_height}

-- at the foot of a page so high
unfoldable pub wide_legend : ℕ → List ℕ
wide_legend foot = caption (foot - 62) FIRST_LEGEND.now ++ caption (foot - 42) SECOND_LEGEND.now ++ caption (foot - 22) THIRD_LEGEND.now

-- the lines for a narrow page
unfoldable pub narrow_line : ℕ → List ℕ
narrow_line at =
    if at == 0 then PUT_AND_STAMP.now
    else if at == 1 then GET_AND_ARROW.now
    else if at == 2 then CLEAR_AND_SCAN.now
    else if at == 3 then ORDER_BELOW.now
    else if at == 4 then YES_AND_NO.now
    else if at == 5 then OUT_AND_TRAP.now
    else if at == 6 then END_AND_LOST.now
    else STEP_BELOW.now

-- those before this one, from this height on
abbrev pub narrow_lines : ℕ → ℕ → List ℕ
narrow_lines top zero = []
narrow_lines top (suc at) = narrow_lines top at ++ caption (top + 20 * at) (narrow_line at)

-- all lines, at the foot of the page of this width with this last band, and the end of the picture
unfoldable pub legend_text : List Lanes → Band → ℕ → List ℕ
legend_text bands last width =
    (if is_narrow width then narrow_lines (page_height bands last width - 162) 8 else wide_legend (page_height bands last width))
    ++ PICTURE_END.now
