-- Digits spell the number that their value is, and the digits of a number spell it.
use Rattle.std.proofs.Common.{◌≡◌, ◌∙◌, ℕ, ◌<◌, List, [], ◌∷◌, ◌+◌, ◌*◌, ◌-◌, ◌^◌, true, length, Some, ap, arith, refl}
use Rattle.std.specs.Char.{digit_value, is_ascii_digit}
use Rattle.std.specs.Fmt.{decimal}
use Rattle.std.specs.List.{AllPass, list_all}
use Rattle.std.specs.Str.Parse.{AllDigits, digits_value, digits_value_after}
use Rattle.std.proofs.lemmas.Bool.{and_from, and_parts, le-leb, leb-true}
use Rattle.std.proofs.lemmas.Fmt.{decimal_is_IsNumeral, decimal_nonempty}
use Rattle.std.proofs.lemmas.List.Sums.{AllPass-from_list_all}
use Rattle.std.proofs.lemmas.Str.{digit_value_digit}
use Rattle.std.proofs.lemmas.Str.Parse.{digit_from_value}
use Rattle.base.specs.Number.{number_from, number_of}

digit_value_is : (d : ℕ) → is_ascii_digit d ≡ true → digit_value d ≡ d - 48
digit_value_is d digit =
    let parts = and_parts _ _ digit in
    omega (arith, digit_value_digit d (leb-true 48 d parts.0, leb-true d 57 parts.1))

number_from-digits : (value : ℕ) (ds : List ℕ) → list_all is_ascii_digit ds ≡ true → number_from value ds ≡ Some (digits_value_after 10 value ds)
number_from-digits value [] all = refl
number_from-digits value (d ∷ ds) all =
    let parts = and_parts _ _ all in
    let next : 10 * value + (d - 48) ≡ value * 10 + digit_value d = omega (arith, digit_value_is d parts.0) in
    rw (parts.0, next) (number_from-digits (value * 10 + digit_value d) ds parts.1)

pub number_of-digits : (ds : List ℕ) → 0 < length ds → list_all is_ascii_digit ds ≡ true → number_of ds ≡ Some (digits_value 10 ds)
number_of-digits [] some all = absurd (omega arith)
number_of-digits (d ∷ ds) some all = number_from-digits 0 (d ∷ ds) all

all_digits : (ds : List ℕ) → AllDigits 10 ds → list_all is_ascii_digit ds ≡ true
all_digits [] all = refl
all_digits (d ∷ ds) all =
    let range = digit_from_value d all.0 in
    and_from _ _ (and_from _ _ (le-leb 48 d range.0) (le-leb d 57 range.1)) (all_digits ds all.1)

-- a text of digits, at least one, that spells the number
pub record Spells (n : ℕ) (ds : List ℕ) : Type 0 where
  pub value : number_of ds ≡ Some n
  pub digits : AllPass is_ascii_digit ds
  pub some : 0 < length ds

pub decimal_spells : (n : ℕ) → n < 2 ^ 64 → Spells n (decimal n)
decimal_spells n small =
    let numeral = decimal_is_IsNumeral n small in
    let all : list_all is_ascii_digit (decimal n) ≡ true = all_digits (decimal n) numeral.0.1 in
    let some : 0 < length (decimal n) = decimal_nonempty n small in
    record {
      value = number_of-digits (decimal n) some all ∙ ap Some numeral.1;
      digits = AllPass-from_list_all is_ascii_digit (decimal n) all;
      some = some;
    }
