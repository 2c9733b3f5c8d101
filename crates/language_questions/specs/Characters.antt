-- What the bytes of a question are.
use Rattle.std.specs.Prelude.{ℕ, Bool, ◌||◌, ◌&&◌, ◌==◌, nat_le, nat_lt, not}
use Rattle.std.specs.Char.{is_ascii_alphabetic, is_ascii_digit}

-- `#`, which ends a question
abbrev pub hash : ℕ
hash = 35

-- `#` or `!`, which are the signs of a question together
abbrev pub is_mark : ℕ → Bool
is_mark b = (b == hash) || (b == 33)

-- `A` to `Z`, `a` to `z` and `_`
abbrev pub is_letter : ℕ → Bool
is_letter b = is_ascii_alphabetic b || (b == 95)

-- `0` to `9`
abbrev pub is_digit : ℕ → Bool
is_digit b = is_ascii_digit b

-- what a name has after its first letter
abbrev pub is_name_part : ℕ → Bool
is_name_part b = is_letter b || is_digit b

-- a byte before a comment
abbrev pub is_code : ℕ → Bool
is_code b = not (b == hash)

-- a byte of a character, and not its first
abbrev pub is_further : ℕ → Bool
is_further b = nat_le 128 b && nat_lt b 192
