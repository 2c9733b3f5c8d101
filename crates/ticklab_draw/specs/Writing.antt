-- Numbers between texts.
use Rattle.std.specs.Prelude.{ℕ, List, ◌++◌}
use Rattle.std.specs.Fmt.{decimal}

-- a number with a text before and one after it
unfoldable pub one_number : List ℕ → ℕ → List ℕ → List ℕ
one_number before number after = before ++ decimal number ++ after

-- two numbers with texts before, between and after them
unfoldable pub two_numbers : List ℕ → ℕ → List ℕ → ℕ → List ℕ → List ℕ
two_numbers before first between second after = before ++ decimal first ++ between ++ decimal second ++ after
