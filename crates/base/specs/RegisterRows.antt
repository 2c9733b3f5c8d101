-- The register rows: in each row one value for every process.
use Rattle.std.specs.Prelude.{ℕ, List, [], replicate, slice_set, slice_index, slice_index_or}

-- so many rows of so many registers, all 0
abbrev pub start_rows : ℕ → ℕ → List (List ℕ)
start_rows rows n = replicate rows (replicate n 0)

-- the register of process `i` in row `r`
abbrev pub register_at : List (List ℕ) → ℕ → ℕ → ℕ
register_at rows r i = slice_index (slice_index_or rows r []) i

-- process `i` has written its register of row `r`
abbrev pub register_set : List (List ℕ) → ℕ → ℕ → ℕ → List (List ℕ)
register_set rows r i v = slice_set rows r (slice_set (slice_index_or rows r []) i v)
