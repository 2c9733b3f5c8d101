-- What stands below the lanes for each mark: the number of its step and, if the order of tickets changed, a
-- line through all lanes and the new order. Arrows lead from puts to gets.
use Rattle.std.specs.Prelude.{ℕ, ◌+◌, if◌then◌else◌, List, [], ◌∷◌, ◌++◌, codes}
use Rattle.ticklab_draw.specs.declared.bands.Lanes.{Lanes}
use Rattle.ticklab_draw.specs.declared.columns.Column.{Column}
use Rattle.ticklab_draw.specs.declared.feet.TheConstants.{CHANGED, ORDER_AT}
use Rattle.ticklab_draw.specs.declared.look.Look.{Look}
use Rattle.ticklab_draw.specs.declared.mark.Mark.{Mark}
use Rattle.ticklab_draw.specs.declared.mark.Sight.{Sight}
use Rattle.ticklab_draw.specs.declared.mark.Sight.TheVariants as S
use Rattle.ticklab_draw.specs.declared.mark.Holdings.{Holdings}
use Rattle.ticklab_draw.specs.declared.pieces.TheConstants.{AND_COLOUR, AND_Y, PATH_END, PATH_FROM, TEXT_END}
use Rattle.ticklab_draw.specs.Arrows.{arrow_text}
use Rattle.ticklab_draw.specs.Chosen.{is_chosen}
use Rattle.ticklab_draw.specs.Colours.{colour, stroke}
use Rattle.ticklab_draw.specs.Layout.{band_foot, band_top, column_at, order_y, step_y}
use Rattle.ticklab_draw.specs.Orders.{holders, order_words}
use Rattle.ticklab_draw.specs.Steps.{step_text}
use Rattle.ticklab_draw.specs.Writing.{one_number, two_numbers}

-- a line through all lanes in the colour of process `p`
unfoldable pub when_line : ℕ → ℕ → ℕ → ℕ → List ℕ
when_line x top foot p =
    stroke CHANGED.now p ++ two_numbers PATH_FROM.now x (codes " ") top (codes "V") ++ one_number [] foot PATH_END.now

-- these processes at this place, in the colour of process `p`
unfoldable pub order_at : ℕ → ℕ → ℕ → List ℕ → List ℕ
order_at x y p ps =
    two_numbers ORDER_AT.now x AND_Y.now y AND_COLOUR.now ++ colour p ++ codes "\">" ++ order_words ps ++ TEXT_END.now

-- process `p` changed the order to this, in this column
unfoldable pub order_text : List Lanes → Column → ℕ → Holdings → List ℕ
order_text bands c p held =
    when_line c.x (band_top bands c.band) (band_foot bands c.band) p ++ order_at c.x (order_y bands c.band) p (holders held)

-- a stamp and a clear change the order
abbrev pub change_text : List Lanes → Column → ℕ → Sight → List ℕ
change_text bands c p (S.Stamp held) = order_text bands c p held
change_text bands c p (S.Clear held) = order_text bands c p held
change_text bands c p sight = []

-- a mark in its column, one of these columns, where it is shown
unfoldable pub foot_text : Look → List Lanes → List Column → Column → Mark → List Mark → List ℕ
foot_text look bands columns c m marks =
    if is_chosen look m
    then step_text c.x (step_y bands c.band) [] m.step ++ change_text bands c m.process m.sight ++ arrow_text look bands columns c m marks
    else []

-- those of these marks, the first of which has this place among all
abbrev pub feet_text : Look → List Lanes → List Column → List Mark → ℕ → List Mark → List ℕ
feet_text look bands columns marks at [] = []
feet_text look bands columns marks at (m ∷ rest) =
    foot_text look bands columns (column_at columns at) m marks ++ feet_text look bands columns marks (at + 1) rest
