-- The pieces of a page, and texts that come again.
use Rattle.std.specs.Prelude.{ℕ, zero, suc, List, [], ◌++◌}
use Rattle.std.specs.Fmt.{decimal}

-- a text of the page itself
unfoldable pub markup : List ℕ → List ℕ
markup text = text

-- a number with such texts before and after it
unfoldable pub around : List ℕ → ℕ → List ℕ → List ℕ
around before number after = before ++ decimal number ++ after

-- the same number at two places, with such texts before it, between and after it
unfoldable pub twice : List ℕ → ℕ → List ℕ → List ℕ → List ℕ
twice before number between after = around before number [] ++ around between number after

-- so many times the same
abbrev pub times : ℕ → List ℕ → List ℕ
times zero text = []
times (suc k) text = times k text ++ markup text

-- for each of the first so many processes its text
abbrev pub for_each : (ℕ → List ℕ) → ℕ → List ℕ
for_each text zero = []
for_each text (suc k) = for_each text k ++ text k
