-- The names of rows.
use Rattle.std.proofs.Common.{◌≡◌, ℕ, List, [], ◌∷◌, ap, map, refl, string_bytes}
use Rattle.base.specs.View.{name_of}
use Rattle.base.specs.declared.tree.Named.{Named}
use Rattle.ticklab_draw.specs.Words.{names}

-- the names of rows, as a tree has them
pub named : (rows : List Named) → names rows ≡ map (λ row. row.letters) (map name_of rows)
named [] = refl
named (row ∷ rows) = ap (λ (more : List (List ℕ)). string_bytes row.name ∷ more) (named rows)
