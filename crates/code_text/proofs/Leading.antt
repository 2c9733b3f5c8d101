-- A number that was written is read.
use Rattle.std.proofs.Common.{◌≡◌, ℕ, ◌+◌, ◌-◌, ◌*◌, ◌/◌, ◌%◌, ◌<◌, ◌≤◌, true, if◌then◌else◌, List, [], ◌∷◌, ◌++◌, ap, ◌∙◌, arith, append_assoc}
use Rattle.std.specs.Char.{is_ascii_digit}
use Rattle.std.specs.Fmt.{decimal}
use Rattle.std.proofs.lemmas.Bool.Decides.{nat_tests}
use Rattle.std.proofs.lemmas.Fmt.{decimal_by_steps}
use Rattle.base.specs.Lines.{line_end}
use Rattle.code_text.specs.prover.Guess.{leading}

digit_of : (n : ℕ) → n < 10 → is_ascii_digit (48 + n) ≡ true
digit_of n below = grind (arith, nat_tests)

-- one digit more
more_leading : (v w n : ℕ) (rest : List ℕ) → n < 10 → (10 * v + (48 + n - 48)) % 4294967296 ≡ w → leading v ((48 + n) ∷ rest) ≡ leading w rest
more_leading v w n rest below value =
    ap (λ b. if b then leading ((10 * v + (48 + n - 48)) % 4294967296) rest else (v, (48 + n) ∷ rest)) (digit_of n below)
    ∙ ap (λ m. leading m rest) value

one_digit : (n : ℕ) → n < 10 → (rest : List ℕ) → n < 4294967296 → leading 0 (((48 + n) ∷ []) ++ rest) ≡ leading n rest
one_digit n below rest small = more_leading 0 n n rest below (omega arith)

more_digits : (n : ℕ) (ds : List ℕ) → 10 ≤ n → ((rest : List ℕ) → n / 10 < 4294967296 → leading 0 (ds ++ rest) ≡ leading (n / 10) rest)
    → (rest : List ℕ) → n < 4294967296 → leading 0 ((ds ++ ((48 + n % 10) ∷ [])) ++ rest) ≡ leading n rest
more_digits n ds big front rest small =
    let last : n % 10 < 10 = omega arith in
    let fewer : n / 10 < 4294967296 = omega arith in
    ap (leading 0) (append_assoc ds ((48 + n % 10) ∷ []) rest)
    ∙ front ((48 + n % 10) ∷ rest) fewer
    ∙ more_leading (n / 10) n (n % 10) rest last (omega arith)

pub leading_decimal : (n : ℕ) (rest : List ℕ) → n < 4294967296 → leading 0 (decimal n ++ rest) ≡ leading n rest
leading_decimal n rest small =
    decimal_by_steps (λ m ds. (more : List ℕ) → m < 4294967296 → leading 0 (ds ++ more) ≡ leading m more) one_digit more_digits n (omega arith) rest small

-- the last number of a line
pub last_number : (n : ℕ) (more : List ℕ) → n < 4294967296 → leading 0 ((decimal n ++ line_end) ++ more) ≡ (n, 10 ∷ more)
last_number n more small = ap (leading 0) (append_assoc (decimal n) line_end more) ∙ leading_decimal n (10 ∷ more) small

-- a number before a space
pub number_then : (n : ℕ) (more : List ℕ) → n < 4294967296 → leading 0 (decimal n ++ 32 ∷ more) ≡ (n, 32 ∷ more)
number_then n more small = leading_decimal n (32 ∷ more) small
