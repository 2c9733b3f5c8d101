-- The invariant of a pass over the places of a code.
use Rattle.std.specs.Prelude.{◌≡◌, ℕ, ◌≤◌, ◌<◌, List, [], ◌++◌, length, map, drop, slice_get, slice_set, Option, Some, None}
use Rattle.code_core.specs.declared.instr.Instr.{Instr}
use Rattle.code_core.specs.Instructions.{CodeSizes}
use Rattle.code_core.specs.Heights.{Placed, placed, placed_from, greatest}
use Rattle.code_core.specs.Verified.{first_fault, known}

-- after `k` places
pub record Passing (z : CodeSizes) (code : List Instr) (k : ℕ) (heights : List (Option ℕ)) (before : Option ℕ) (most : ℕ) : Type 0 where
  pub passed : List Placed
  pub long : length passed ≡ k
  pub whole : placed code ≡ passed ++ placed_from (drop k code) passed before
  pub told : first_fault z code [] (placed code) ≡ first_fault z code passed (placed_from (drop k code) passed before)
  pub held : length heights ≡ length code
  pub each : (q : ℕ) → q < length code → slice_get heights q ≡ Some (known passed q)
  pub low : (q h : ℕ) → q < length code → known passed q ≡ Some h → h ≤ k
  pub low_before : (h : ℕ) → before ≡ Some h → h ≤ k
  pub greatest_is : greatest (map (λ e. e.1) passed) ≡ most

abbrev pub joined : Option (Option ℕ) → Option ℕ
joined None = None
joined (Some known) = known

abbrev pub noted_to : List (Option ℕ) → Option ℕ → Option ℕ
noted_to heights None = None
noted_to heights (Some l) = joined (slice_get heights l)

abbrev pub or_this : Option ℕ → ℕ → ℕ
or_this None h = h
or_this (Some known) h = known

abbrev pub noted : List (Option ℕ) → Option ℕ → ℕ → List (Option ℕ)
noted heights None h = heights
noted heights (Some l) h = slice_set heights l (Some (or_this (noted_to heights (Some l)) h))
