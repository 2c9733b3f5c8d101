-- How a text is shown where there are colours.
use Rattle.std.specs.Prelude.{ℕ, zero, suc, Bool, true, false, List, [], ◌∷◌, ◌++◌, ◌||◌, ◌&&◌, not, codes, drop, eqb, length, slice_index, take, if◌then◌else◌}
use Rattle.std.specs.List.{starts_with, ends_with}
use Rattle.ticklab_answers.specs.declared.colours.Colours.{Colours}

abbrev pub begins : List ℕ → List ℕ → Bool
begins text start = starts_with eqb text start

abbrev pub ends : List ℕ → List ℕ → Bool
ends text end = ends_with eqb text end

-- bold and red, bold and cyan, and neither
abbrev pub red : List ℕ
red = 27 ∷ codes "[1;31m"

abbrev pub cyan : List ℕ
cyan = 27 ∷ codes "[1;36m"

abbrev pub plain : List ℕ
plain = 27 ∷ codes "[0m"

-- carets are red
abbrev pub caret_style : Bool → Bool → List ℕ
caret_style false true = red
caret_style true false = plain
caret_style _ _ = []

-- What stands between two parts of a text: `error:` is red behind `: `, and `hint:` cyan at the start of a line.
abbrev pub style_between : List ℕ → List ℕ → List ℕ
style_between before rest =
    if ends before (codes ": ") && begins rest (codes "error: ") then red
    else if ends before (codes "\n") && begins rest (codes "hint: ") then cyan
    else if ends before (codes ": error:") || ends before (codes "\nhint:") then plain
    else caret_style (ends before (codes "^")) (begins rest (codes "^"))

abbrev pub style_at : List ℕ → ℕ → List ℕ
style_at text at = style_between (take at text) (drop at text)

-- so many bytes, each behind what stands before it
abbrev pub coloured_to : List ℕ → ℕ → List ℕ
coloured_to text zero = []
coloured_to text (suc at) = coloured_to text at ++ (style_at text at ++ slice_index text at ∷ [])

abbrev pub coloured : List ℕ → List ℕ
coloured text = coloured_to text (length text)

-- the colours of an answer: JSON, SVG and HTML have none
abbrev pub colours_for : Colours → Bool → Colours
colours_for colours is_data = record { out = colours.out && not is_data; err = colours.err }

-- with colours, or as it is
abbrev pub shown_as : Bool → List ℕ → List ℕ
shown_as true text = coloured text
shown_as false text = text
