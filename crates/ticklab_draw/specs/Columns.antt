-- The columns of marks, each as wide as its sign and all its texts.
use Rattle.std.specs.Prelude.{ℕ, ◌+◌, ◌-◌, ◌*◌, max, min, if◌then◌else◌, List, [], ◌∷◌, length, Option, Some, None}
use Rattle.std.specs.Fmt.{decimal}
use Rattle.base.specs.declared.event.Act.TheVariants as A
use Rattle.ticklab_draw.specs.declared.columns.Column.{Column}
use Rattle.ticklab_draw.specs.declared.look.Look.{Look}
use Rattle.ticklab_draw.specs.declared.mark.Mark.{Mark}
use Rattle.ticklab_draw.specs.declared.mark.Sight.{Sight}
use Rattle.ticklab_draw.specs.declared.mark.Sight.TheVariants as S
use Rattle.ticklab_draw.specs.declared.shapes.Shape.{Shape}
use Rattle.ticklab_draw.specs.declared.shapes.Shape.TheVariants.{Stamp, Out}
use Rattle.ticklab_trace.specs.Parts.{part_at}
use Rattle.ticklab_trace.specs.declared.parts.Parts.{Parts}
use Rattle.ticklab_draw.specs.Chosen.{is_chosen}
use Rattle.ticklab_draw.specs.Layout.{band_end, edge, field_half, flag_width, letters_half, next_column}
use Rattle.ticklab_draw.specs.Shapes.{beside, shape_of}

-- how many of so many letters beside a mark are seen: `&lt;` in a question is one
abbrev pub seen_letters : Sight → ℕ → ℕ
seen_letters (S.Act (A.Older i j answer)) letters = letters - 3
seen_letters sight letters = letters

-- half the width of a shape and the words beside it
abbrev pub shape_half : Shape → ℕ → ℕ
shape_half Stamp letters = field_half letters
shape_half Out letters = flag_width letters
shape_half shape letters = max 12 (letters_half letters)

-- the letters that a mark may have below it besides the digits of its step: an order of `n` processes, or the step of a put
abbrev pub read_letters : ℕ → Option ℕ → ℕ
read_letters digits None = 0
read_letters digits (Some at) = 10 + digits

abbrev pub below_letters : ℕ → ℕ → Sight → ℕ
below_letters n digits (S.Get r i v put) = read_letters digits put
below_letters n digits (S.Stamp held) = max 4 (2 * n)
below_letters n digits (S.Clear held) = max 4 (2 * n)
below_letters n digits sight = 0

abbrev pub foot_letters : ℕ → ℕ → Sight → ℕ
foot_letters n digits sight = max digits (below_letters n digits sight)

-- half the width of the sign of a mark and of the words beside it, of one of `n` processes, where rows have these names
abbrev pub sign_half : ℕ → List (List ℕ) → Mark → ℕ
sign_half n rows m = shape_half (shape_of m.sight) (seen_letters m.sight (length (beside n rows m.process m.sight)))

-- and of all that stands in its column: so small that a band has room for it
unfoldable pub half_of : ℕ → List (List ℕ) → Mark → ℕ
half_of n rows m = min 380 (max (sign_half n rows m) (letters_half (foot_letters n (length (decimal m.step)) m.sight)))

-- the column of a mark that comes behind this one; one that isn't shown has none of its own
abbrev pub column_of : Look → ℕ → List (List ℕ) → Option Parts → Column → Mark → Column
column_of look n rows parts c m =
    if is_chosen look m
    then next_column (band_end look.width) m.process (part_at parts (m.step - 1)) c (half_of n rows m)
    else c

-- those of these marks, behind this one
abbrev pub columns_behind : Look → ℕ → List (List ℕ) → Option Parts → Column → List Mark → List Column
columns_behind look n rows parts c [] = []
columns_behind look n rows parts c (m ∷ marks) =
    column_of look n rows parts c m ∷ columns_behind look n rows parts (column_of look n rows parts c m) marks

-- a column for each mark, where the run has these parts
abbrev pub columns : Look → ℕ → List (List ℕ) → Option Parts → List Mark → List Column
columns look n rows parts marks = columns_behind look n rows parts edge marks
