-- The heads of the parts of a run that goes on for ever: a strip across the page above the first band of a part, with its name.
use Rattle.std.specs.Prelude.{ℕ, ◌==◌, if◌then◌else◌, List, [], ◌∷◌, ◌++◌}
use Rattle.ticklab_trace.specs.Parts.{part_name}
use Rattle.ticklab_draw.specs.declared.bands.Lanes.{Lanes}
use Rattle.ticklab_draw.specs.declared.columns.Column.{Column}
use Rattle.ticklab_draw.specs.declared.heads.TheConstants.{STRIP, STRIP_END}
use Rattle.ticklab_draw.specs.declared.pieces.TheConstants.{AND_Y}
use Rattle.ticklab_draw.specs.Lanes.{caption}
use Rattle.ticklab_draw.specs.Layout.{edge, head_y, strip_y}
use Rattle.ticklab_draw.specs.Writing.{two_numbers}

-- above the band of this column, on a page so wide
unfoldable pub head_text : ℕ → List Lanes → Column → List ℕ
head_text width bands c =
    two_numbers STRIP.now width AND_Y.now (strip_y bands c.band) STRIP_END.now ++ caption (head_y bands c.band) (part_name c.part)

-- those above the bands of these columns, behind this one
abbrev pub heads_from : ℕ → List Lanes → Column → List Column → List ℕ
heads_from width bands c [] = []
heads_from width bands c (d ∷ columns) =
    (if c.band.heads == d.band.heads then [] else head_text width bands d) ++ heads_from width bands d columns

abbrev pub heads_text : ℕ → List Lanes → List Column → List ℕ
heads_text width bands columns = heads_from width bands edge columns
