-- Register rows, one after the other in an array.
use Rattle.std.specs.Prelude.{ℕ, zero, suc, List, [], ◌∷◌, take, drop}

-- the first `count` rows of `n` registers each
abbrev pub rows_in : ℕ → ℕ → List ℕ → List (List ℕ)
rows_in zero n registers = []
rows_in (suc count) n registers = take n registers ∷ rows_in count n (drop n registers)
