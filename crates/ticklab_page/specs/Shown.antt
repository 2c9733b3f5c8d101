-- How a text of a file is written on a page.
use Rattle.std.specs.Prelude.{ℕ, ◌==◌, if◌then◌else◌, List, [], ◌∷◌}
use Rattle.std.specs.List.{flat_map}
use Rattle.ticklab_draw.specs.Escapes.{escaped_byte}

-- a tab as it is, and other bytes as in a picture
abbrev pub shown_byte : ℕ → List ℕ
shown_byte b = if b == 9 then 9 ∷ [] else escaped_byte b

abbrev pub shown : List ℕ → List ℕ
shown text = flat_map shown_byte text
