-- What the bytes of a text are: blanks, letters, digits, signs and keywords.
use Rattle.std.specs.Prelude.{ℕ, Bool, false, ◌||◌, ◌&&◌, ◌==◌, List, [], ◌∷◌, map}
use Rattle.std.specs.Char.{is_ascii_alphabetic, is_ascii_digit}
use Rattle.std.specs.List.{list_any}
use Rattle.std.specs.Str.{bytes_eq}
use Rattle.tick_syntax.specs.Terminals.{spelling, signs, keywords}

-- line feed, which ends a comment
abbrev pub line_feed : ℕ
line_feed = 10

-- `#`, which begins a comment
abbrev pub hash : ℕ
hash = 35

-- `A` to `Z`, `a` to `z` and `_`
abbrev pub is_letter : ℕ → Bool
is_letter b = is_ascii_alphabetic b || (b == 95)

-- `0` to `9`
abbrev pub is_digit : ℕ → Bool
is_digit b = is_ascii_digit b

-- what a name has after its first letter
abbrev pub is_name_part : ℕ → Bool
is_name_part b = is_letter b || is_digit b

-- the words that are no names
abbrev pub is_keyword : List ℕ → Bool
is_keyword word = list_any (λ keyword. bytes_eq (spelling keyword) word) keywords

-- of these spellings those of one byte, and the first bytes of those of two
abbrev pub ones : List (List ℕ) → List ℕ
ones [] = []
ones ((a ∷ []) ∷ more) = a ∷ ones more
ones (_ ∷ more) = ones more

abbrev pub firsts_of_two : List (List ℕ) → List ℕ
firsts_of_two [] = []
firsts_of_two ((a ∷ b ∷ []) ∷ more) = a ∷ firsts_of_two more
firsts_of_two (_ ∷ more) = firsts_of_two more

-- the signs of one byte: ; = ( ) { } , + - * / % <
abbrev pub lone_signs : List ℕ
lone_signs = ones (map spelling signs)

abbrev pub is_lone_sign : ℕ → Bool
is_lone_sign b = list_any (λ sign. b == sign) lone_signs

-- the signs of two bytes, <= == !=, are one of these before a `=`
abbrev pub before_equals : List ℕ
before_equals = firsts_of_two (map spelling signs)

abbrev pub may_precede_equals : ℕ → Bool
may_precede_equals b = list_any (λ sign. b == sign) before_equals

abbrev pub is_sign : List ℕ → Bool
is_sign [] = false
is_sign (a ∷ []) = is_lone_sign a
is_sign (a ∷ b ∷ []) = may_precede_equals a && (b == 61)
is_sign (a ∷ b ∷ c ∷ more) = false
