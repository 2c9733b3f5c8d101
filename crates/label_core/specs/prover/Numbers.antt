-- Labels, and the numbers that they are read as.
use Rattle.std.proofs.Common.{◌≡◌, ℕ, suc, zero, ◌+◌, ◌*◌, ◌/◌, ◌%◌, ◌^◌, ◌<◌, List, [], ◌∷◌, ◌++◌, length, length-append, refl, ap, ◌∙◌, arith}
use Rattle.std.specs.Prelude.{Bool, nat_lt, ◌-◌, All}
use Rattle.std.proofs.Math.Nat.{pow-suc, one-le-pow}
use Rattle.std.proofs.lemmas.Nat.{pow-add, div-add-mod', div-mul-add, mod-mul-add, mul-add-lt, div_below, mod_below}
use Rattle.std.proofs.lemmas.List.Elements.{All-nil, All-cons, All-head, All-tail}
use Rattle.label_core.specs.Labels.{label_number, digits_in}

-- whether a label has one of the `count` numbers from `first` on, as a byte that wraps tells it
abbrev pub is_within : ℕ → ℕ → List ℕ → Bool
is_within first count label = nat_lt ((label_number label + (256 - first)) % 256) count

pub some_labels : (digits : ℕ) → 0 < 3 ^ digits
some_labels digits = omega (arith, one-le-pow digits 3 (omega arith))

pub length-digits_in : (count read : ℕ) → length (digits_in count read) ≡ count
length-digits_in zero read = refl
length-digits_in (suc count) read = ap suc (length-digits_in count (read % 3 ^ count))

pub small-digits_in : (count read : ℕ) → read < 3 ^ count → All (λ digit. digit < 3) (digits_in count read)
small-digits_in zero read small = All-nil (λ digit. digit < 3)
small-digits_in (suc count) read small =
    All-cons (λ digit. digit < 3) (read / 3 ^ count) (digits_in count (read % 3 ^ count))
    (div_below read (3 ^ count) 3 (some_labels count) (omega (arith, small, pow-suc 3 count)))
    (small-digits_in count (read % 3 ^ count) (mod_below read (3 ^ count) (some_labels count)))

-- the digits of a number are read as that number
pub number-digits_in : (count read : ℕ) → read < 3 ^ count → label_number (digits_in count read) ≡ read
number-digits_in zero read small = omega (arith, small)
number-digits_in (suc count) read small =
    let rest : ℕ = read % 3 ^ count in
    ap (λ k. read / 3 ^ count * 3 ^ k + label_number (digits_in count rest)) (length-digits_in count rest)
    ∙ ap (λ r. read / 3 ^ count * 3 ^ count + r) (number-digits_in count rest (mod_below read (3 ^ count) (some_labels count)))
    ∙ div-add-mod' read (3 ^ count)

pub number_fits : (label : List ℕ) → All (λ digit. digit < 3) label → label_number label < 3 ^ length label
number_fits [] small = omega arith
number_fits (digit ∷ label) small =
    let here : digit < 3 = All-head (λ digit. digit < 3) digit label small in
    let rest : label_number label < 3 ^ length label = number_fits label (All-tail (λ digit. digit < 3) digit label small) in
    omega (arith, pow-suc 3 (length label), mul-add-lt digit (3 ^ length label) (label_number label) 3 here rest)

-- a label is the digits of the number that it is read as
pub digits_in-number : (label : List ℕ) → All (λ digit. digit < 3) label → digits_in (length label) (label_number label) ≡ label
digits_in-number [] small = refl
digits_in-number (digit ∷ label) small =
    let each = All-tail (λ digit. digit < 3) digit label small in
    let rest : label_number label < 3 ^ length label = number_fits label each in
    let whole : ℕ = digit * 3 ^ length label + label_number label in
    ap (λ d. d ∷ digits_in (length label) (whole % 3 ^ length label)) (div-mul-add digit (3 ^ length label) (label_number label) rest)
    ∙ ap (λ r. digit ∷ digits_in (length label) r) (mod-mul-add digit (3 ^ length label) (label_number label) rest)
    ∙ ap (λ ds. digit ∷ ds) (digits_in-number label each)

regroup : (digit low high a b : ℕ) → digit * (high * low) + (a * low + b) ≡ (digit * high + a) * low + b
regroup digit low high a b = omega arith

pub number-append : (a b : List ℕ) → label_number (a ++ b) ≡ label_number a * 3 ^ length b + label_number b
number-append [] b = omega arith
number-append (digit ∷ a) b =
    ap (λ k. digit * 3 ^ k + label_number (a ++ b)) (length-append a b)
    ∙ ap (λ w. digit * w + label_number (a ++ b)) (pow-add 3 (length a) (length b))
    ∙ ap (λ n. digit * (3 ^ length a * 3 ^ length b) + n) (number-append a b)
    ∙ regroup digit (3 ^ length b) (3 ^ length a) (label_number a) (label_number b)
