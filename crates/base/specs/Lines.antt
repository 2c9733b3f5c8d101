-- What the lines of all texts have in common: line ends, and spaces before parts.
use Rattle.std.specs.Prelude.{ℕ, List, [], ◌∷◌, ◌++◌, codes}

-- a line feed
abbrev pub line_end : List ℕ
line_end = 10 ∷ []

-- each text after a space
abbrev pub spaced : List (List ℕ) → List ℕ
spaced [] = []
spaced (text ∷ texts) = codes " " ++ text ++ spaced texts
