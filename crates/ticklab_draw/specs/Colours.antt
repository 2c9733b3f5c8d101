-- The colours of lanes.
use Rattle.std.specs.Prelude.{ℕ, ◌%◌, ◌==◌, if◌then◌else◌, List, ◌++◌, codes}
use Rattle.ticklab_draw.specs.declared.colours.TheConstants.{BROWN, DARK_BLUE, GREEN, LIGHT_BLUE, OCHRE, STROKE, VIOLET}

-- from dark to light
unfoldable pub colour : ℕ → List ℕ
colour p =
    if p % 6 == 0 then DARK_BLUE.now
    else if p % 6 == 1 then BROWN.now
    else if p % 6 == 2 then GREEN.now
    else if p % 6 == 3 then VIOLET.now
    else if p % 6 == 4 then OCHRE.now
    else LIGHT_BLUE.now

-- how a line in the colour of process `p` begins
unfoldable pub stroke : List ℕ → ℕ → List ℕ
stroke line p = line ++ STROKE.now ++ colour p ++ codes "\""
