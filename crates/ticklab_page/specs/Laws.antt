-- No text of a file ends what it stands in.
use Rattle.std.specs.Prelude.{◌≡◌, ℕ, ◌+◌, ◌==◌, ◌||◌, Bool, if◌then◌else◌, List, [], ◌∷◌}
use Rattle.ticklab_page.specs.Shown.{shown}

-- `<`, `>`, `"` and `'`: only these open or close a tag or the value of an attribute
abbrev pub is_mark : ℕ → Bool
is_mark b = (b == 60) || ((b == 62) || ((b == 34) || (b == 39)))

-- how many of them stand in a text
abbrev pub marks : List ℕ → ℕ
marks [] = 0
marks (b ∷ text) = if is_mark b then 1 + marks text else marks text

abbrev pub ShownLaw : Type 0
ShownLaw = (text : List ℕ) → marks (shown text) ≡ 0
