-- What the length and the number of a label say of its digits.
use Rattle.std.proofs.Common.{◌≡◌, ℕ, zero, suc, ◌+◌, ◌-◌, ◌*◌, ◌^◌, ◌<◌, ◌≤◌, List, [], ◌∷◌, ◌++◌, length, take, drop, replicate, get_or, refl, ap, sym, ◌∙◌, subst, arith, length-take}
use Rattle.std.specs.Prelude.{All}
use Rattle.std.proofs.Math.Nat.{pow-le-pow_right, min-le_right}
use Rattle.std.proofs.lemmas.List.{length-replicate, take_rest, drop_at, take_more}
use Rattle.std.proofs.lemmas.List.Elements.{All-take, All-replicate}
use Rattle.label_core.specs.Labels.{IsLabel, AreDigits, IsNumbered, label_number, digits_in}
use Rattle.label_core.specs.prover.Numbers.{length-digits_in, small-digits_in, number-digits_in, number_fits, digits_in-number, number-append}
use Rattle.label_core.specs.declared.table.TheConstants.{DIGITS}
use Rattle.label_core.proofs.Rows.{row_under}

pub length_held : (len read : ℕ) (label : List ℕ) → digits_in len read ≡ label → len ≡ length label
length_held len read label is = sym (length-digits_in len read) ∙ ap length is

pub number_held : (len read : ℕ) (label : List ℕ) → read < 3 ^ len → digits_in len read ≡ label → read ≡ label_number label
number_held len read label small is = sym (number-digits_in len read small) ∙ ap label_number is

pub small_held : (len read : ℕ) (label : List ℕ) → read < 3 ^ len → digits_in len read ≡ label → All (λ digit. digit < 3) label
small_held len read label small is = subst (All (λ digit. digit < 3)) is (small-digits_in len read small)

pub digits_held : (len read : ℕ) (label : List ℕ) → len ≤ 5 → read < 3 ^ len → digits_in len read ≡ label → AreDigits label
digits_held len read label few small is = record {
  few = omega (arith, length_held len read label is, few);
  small = small_held len read label small is;
}

-- no number of a label is past the table
pub number_in_table : (len read : ℕ) → len ≤ 5 → read < 3 ^ len → read < 243
number_in_table len read few small =
    let most : 3 ^ len ≤ 3 ^ 5 = pow-le-pow_right (omega arith) few in
    omega (arith, most, small)

pub row_held : (len read : ℕ) (label : List ℕ) → len ≤ 5 → read < 3 ^ len → digits_in len read ≡ label
    → get_or DIGITS read [] ≡ replicate (5 - length label) 0 ++ label
row_held len read label few small is =
    let long : length label ≡ len = sym (length_held len read label is) in
    let label_is : IsLabel (length label) label = record { len = λ _. length label; small = small_held len read label small is } in
    ap (λ k. get_or DIGITS k []) (number_held len read label small is) ∙ row_under (length label) label label_is (omega (arith, long, few))

pub numbered : (len read : ℕ) → read < 3 ^ len → IsNumbered len read (digits_in len read)
numbered len read small = record {
  is = record { len = length-digits_in len read; small = small-digits_in len read small };
  reads = number-digits_in len read small;
}

-- the label is what follows the zeros of its row
pub held_in_row : (len : ℕ) (label row : List ℕ) → row ≡ replicate (5 - length label) 0 ++ label → len ≡ length label
    → take (length row - (5 - len)) (drop (5 - len) row) ≡ label
held_in_row len label row is long =
    take_rest row (5 - len) ∙ ap (λ k. drop (5 - k) row) long ∙ ap (drop (5 - length label)) is
    ∙ drop_at (replicate (5 - length label) 0) label (5 - length label) (length-replicate (5 - length label) 0)

pub zeros_number : (zeros : ℕ) → label_number (replicate zeros 0) ≡ 0
zeros_number zero = refl
zeros_number (suc zeros) = omega (arith, zeros_number zeros)

-- the label of the number 0
pub zeros_held : (digits : ℕ) → digits_in digits 0 ≡ replicate digits 0
zeros_held digits =
    let zeros : List ℕ = replicate digits 0 in
    let back : digits_in (length zeros) (label_number zeros) ≡ zeros =
    digits_in-number zeros (All-replicate (λ digit. digit < 3) digits 0 (omega arith)) in
    subst (λ k. digits_in k 0 ≡ zeros) (length-replicate digits 0) (subst (λ n. digits_in (length zeros) n ≡ zeros) (zeros_number digits) back)

-- a digit more of a number
pub number_more : (digits : List ℕ) (i : ℕ) → i < length digits → label_number (take i digits) * 3 + get_or digits i 0 ≡ label_number (take (i + 1) digits)
number_more digits i inside = sym (
    ap label_number (take_more digits i 0 inside) ∙ number-append (take i digits) (get_or digits i 0 ∷ []) ∙ omega arith
    )

pub front_in_table : (digits : List ℕ) (i : ℕ) → All (λ digit. digit < 3) digits → length digits ≤ 5 → label_number (take i digits) < 243
front_in_table digits i small few =
    number_in_table (length (take i digits)) (label_number (take i digits)) (omega (arith, length-take i digits, min-le_right i (length digits), few))
    (number_fits (take i digits) (All-take (λ digit. digit < 3) i digits small))
