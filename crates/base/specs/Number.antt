-- Numbers written in decimal digits.
use Rattle.std.specs.Prelude.{ℕ, ◌+◌, ◌-◌, ◌*◌, ◌^◌, min, List, [], ◌∷◌, Option, Some, None, if◌then◌else◌}
use Rattle.std.specs.Char.{is_ascii_digit}

-- the number whose digits are those of `value` and then these bytes, if each is a digit
abbrev pub number_from : ℕ → List ℕ → Option ℕ
number_from value [] = Some value
number_from value (byte ∷ bytes) =
    if is_ascii_digit byte then number_from (10 * value + (byte - 48)) bytes else None

-- the number that a text of digits, at least one, spells
abbrev pub number_of : List ℕ → Option ℕ
number_of [] = None
number_of (byte ∷ bytes) = number_from 0 (byte ∷ bytes)

-- numbers too great for any use here are alike
abbrev pub capped : ℕ → ℕ
capped n = min n (2 ^ 32)
