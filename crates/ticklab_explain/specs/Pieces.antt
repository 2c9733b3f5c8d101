-- Pieces of a text, one after another, and words in rows.
use Rattle.std.specs.Prelude.{ℕ, ◌==◌, Bool, List, [], ◌∷◌, ◌++◌, length, if◌then◌else◌}
use Rattle.std.specs.Borrow.{Bor}
use Rattle.std.specs.List.{flat_map, list_any}
use Rattle.std.specs.Str.{bytes_eq}

abbrev pub joined : List (List ℕ) → List ℕ
joined [] = []
joined (piece ∷ pieces) = piece ++ joined pieces

-- the same of pieces that are lent
abbrev pub joined_now : List (Bor (List ℕ)) → List ℕ
joined_now pieces = flat_map (λ piece. piece.now) pieces

-- the word is one of these
abbrev pub is_one_of : List ℕ → List (List ℕ) → Bool
is_one_of word words = list_any (λ one. bytes_eq one word) words

-- what stands beside a word in rows; another text where none has the word
abbrev pub beside : List (List ℕ × List ℕ) → List ℕ → List ℕ → List ℕ
beside [] word other = other
beside (row ∷ rows) word other = if bytes_eq word row.0 then row.1 else beside rows word other

-- another word where there is none
unfoldable pub or_else : List ℕ → List ℕ → List ℕ
or_else word other = if length word == 0 then other else word
