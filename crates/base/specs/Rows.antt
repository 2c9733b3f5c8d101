-- A row of `m` items of which the first few count and the others are `z`.
use Rattle.std.specs.Prelude.{ℕ, ◌-◌, List, ◌++◌, length, replicate}

abbrev pub padded : {X : Type 0} → ℕ → X → List X → List X
padded m z items = items ++ replicate (m - length items) z
