-- The table of who dominates whom.
use Rattle.std.proofs.Common.{◌≡◌, ℕ, suc, zero, ◌+◌, ◌-◌, ◌/◌, ◌%◌, ◌^◌, ◌<◌, Bool, true, false, ◌&&◌, eqb, cond, List, [], ◌∷◌, ◌++◌, length, replicate, get_or, refl, sym, ap, ◌∙◌, arith}
use Rattle.std.proofs.lemmas.Bool.{and_parts, eqb-true, eq-eqb, ne_eqb}
use Rattle.label_core.specs.Labels.{IsLabel, AreDigits, dominates, label_number}
use Rattle.label_core.specs.prover.Numbers.{number_fits}
use Rattle.label_core.specs.declared.table.TheConstants.{DIGITS, DOMINATED}
use Rattle.label_core.proofs.Rows.{row_under, dominates_under}
use Rattle.label_core.proofs.Held.{number_in_table}

-- bit `at` of a row
abbrev pub bit_in : List ℕ → ℕ → ℕ
bit_in row at = get_or row (at / 64) 0 / 2 ^ (at % 64) % 2

-- whether the bits of a row from this one on tell which of the labels this one dominates
abbrev are_bits : List ℕ → List ℕ → List (List ℕ) → ℕ → Bool
are_bits row label [] at = true
are_bits row label (other ∷ others) at = eqb (bit_in row at) (cond (dominates label other) 1 0) && are_bits row label others (at + 1)

-- whether each row tells which of the labels of five digits the label of its number dominates
abbrev are_rows : List (List ℕ) → List (List ℕ) → Bool
are_rows [] labels = true
are_rows (row ∷ rows) [] = true
are_rows (row ∷ rows) (label ∷ labels) = are_bits row label DIGITS 0 && are_rows rows labels

all_rows : are_rows DOMINATED DIGITS ≡ true
all_rows = refl

bit_from : (row label : List ℕ) (others : List (List ℕ)) (first at : ℕ) → are_bits row label others first ≡ true → at < length others
    → bit_in row (first + at) ≡ cond (dominates label (get_or others at [])) 1 0
bit_from row label [] first at are inside = absurd (omega arith)
bit_from row label (other ∷ others) first zero are inside =
    let here : first + 0 ≡ first = omega arith in
    ap (bit_in row) here ∙ eqb-true _ _ (and_parts _ _ are).0
bit_from row label (other ∷ others) first (suc at) are inside =
    let next : first + suc at ≡ first + 1 + at = omega arith in
    ap (bit_in row) next ∙ bit_from row label others (first + 1) at (and_parts _ _ are).1 (omega arith)

row_from : (rows labels : List (List ℕ)) (at : ℕ) → are_rows rows labels ≡ true → at < length rows → at < length labels
    → are_bits (get_or rows at []) (get_or labels at []) DIGITS 0 ≡ true
row_from [] labels at are in_rows in_labels = absurd (omega arith)
row_from (row ∷ rows) [] at are in_rows in_labels = absurd (omega arith)
row_from (row ∷ rows) (label ∷ labels) zero are in_rows in_labels = (and_parts _ _ are).0
row_from (row ∷ rows) (label ∷ labels) (suc at) are in_rows in_labels = row_from rows labels at (and_parts _ _ are).1 (omega arith) (omega arith)

-- a bit of the table tells whether the label of one number dominates that of another
bit_of : (a b : ℕ) → a < 243 → b < 243 → bit_in (get_or DOMINATED a []) b ≡ cond (dominates (get_or DIGITS a []) (get_or DIGITS b [])) 1 0
bit_of a b in_a in_b =
    let start : b ≡ 0 + b = omega arith in
    ap (bit_in (get_or DOMINATED a [])) start
    ∙ bit_from (get_or DOMINATED a []) (get_or DIGITS a []) DIGITS 0 b (row_from DOMINATED DIGITS a all_rows in_a in_a) in_b

told : (t : Bool) (bit : ℕ) → bit ≡ cond t 1 0 → eqb bit 1 ≡ t
told true bit is = eq-eqb bit 1 is
told false bit is = ne_eqb bit 1 (λ one. omega (arith, is, one))

-- the bit that the code reads
pub dominates_bit : (a b row : List ℕ) (at : ℕ) → AreDigits a → AreDigits b → length a ≡ length b
    → row ≡ get_or DOMINATED (label_number a) [] → at ≡ label_number b → eqb (bit_in row at) 1 ≡ dominates a b
dominates_bit a b row at is_a is_b long row_is at_is =
    let digits : ℕ = length a in
    let label_a : IsLabel digits a = record { len = λ _. length a; small = is_a.small } in
    let label_b : IsLabel digits b = record { len = sym long; small = is_b.small } in
    let in_a : label_number a < 243 = number_in_table (length a) (label_number a) is_a.few (number_fits a is_a.small) in
    let in_b : label_number b < 243 = number_in_table (length b) (label_number b) is_b.few (number_fits b is_b.small) in
    told (dominates a b) (bit_in row at) (
    ap (λ bits. bit_in bits at) row_is ∙ ap (bit_in (get_or DOMINATED (label_number a) [])) at_is
    ∙ bit_of (label_number a) (label_number b) in_a in_b
    ∙ ap (λ r. cond (dominates r (get_or DIGITS (label_number b) [])) 1 0) (row_under digits a label_a is_a.few)
    ∙ ap (λ r. cond (dominates (replicate (5 - digits) 0 ++ a) r) 1 0) (row_under digits b label_b is_a.few)
    ∙ ap (λ (t : Bool). cond t 1 0) (dominates_under (5 - digits) a b)
    )
