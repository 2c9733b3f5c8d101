-- Values beside their spellings.
use Rattle.std.specs.Prelude.{ℕ, if◌then◌else◌, List, [], ◌∷◌, Option, Some, None}
use Rattle.std.specs.Borrow.{Bor}
use Rattle.std.specs.Str.{bytes_eq}

-- the first that is spelled so
unfoldable pub spelled : {T : Type 0} → List (List ℕ × T) → List ℕ → Option T
spelled [] letters = None
spelled (row ∷ rows) letters = if bytes_eq row.0 letters then Some row.1 else spelled rows letters

-- the same of spellings that are lent
unfoldable pub spelled_now : {T : Type 0} → List (Bor (List ℕ) × T) → List ℕ → Option T
spelled_now [] letters = None
spelled_now (row ∷ rows) letters = if bytes_eq row.0.now letters then Some row.1 else spelled_now rows letters
