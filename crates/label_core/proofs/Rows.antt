-- The rows of the table of digits, and the labels that end them.
use Rattle.std.proofs.Common.{◌≡◌, ℕ, suc, zero, ◌+◌, ◌-◌, ◌^◌, ◌<◌, ◌≤◌, Bool, true, ◌&&◌, List, [], ◌∷◌, ◌++◌, length, replicate, get_or, refl, sym, ap, ◌∙◌, subst, arith, length-append}
use Rattle.std.specs.Prelude.{All}
use Rattle.std.proofs.lemmas.Bool.{and_parts}
use Rattle.std.proofs.lemmas.List.{length-replicate}
use Rattle.std.proofs.lemmas.List.Elements.{All-append, All-replicate}
use Rattle.label_core.specs.Labels.{IsLabel, dominates, same_label, label_number, digits_in}
use Rattle.label_core.specs.Laws.{DigitsLaw}
use Rattle.label_core.specs.prover.Numbers.{length-digits_in, small-digits_in, number-digits_in, number_fits, digits_in-number}
use Rattle.label_core.specs.declared.table.TheConstants.{DIGITS}
use Rattle.label_core.proofs.Domination.{equal_from_same}

-- whether the rows are the digits of this number and of those after it
abbrev are_rows : List (List ℕ) → ℕ → Bool
are_rows [] at = true
are_rows (row ∷ rows) at = same_label (digits_in 5 at) row && are_rows rows (at + 1)

all_rows : are_rows DIGITS 0 ≡ true
all_rows = refl

row_from : (rows : List (List ℕ)) (first at : ℕ) → are_rows rows first ≡ true → at < length rows → get_or rows at [] ≡ digits_in 5 (first + at)
row_from [] first at are inside = absurd (omega arith)
row_from (row ∷ rows) first zero are inside =
    let here : first ≡ first + 0 = omega arith in
    sym (equal_from_same (digits_in 5 first) row (and_parts _ _ are).0) ∙ ap (digits_in 5) here
row_from (row ∷ rows) first (suc at) are inside =
    let next : first + 1 + at ≡ first + suc at = omega arith in
    row_from rows (first + 1) at (and_parts _ _ are).1 (omega arith) ∙ ap (digits_in 5) next

row_of : (read : ℕ) → read < 243 → get_or DIGITS read [] ≡ digits_in 5 read
row_of read small = let start : 0 + read ≡ read = omega arith in row_from DIGITS 0 read all_rows small ∙ ap (digits_in 5) start

pub digits_law : DigitsLaw
digits_law read small =
    let row = sym (row_of read small) in record {
      is = record {
        len = ap length (row_of read small) ∙ length-digits_in 5 read;
        small = subst (All (λ digit. digit < 3)) row (small-digits_in 5 read small);
      };
      reads = ap label_number (row_of read small) ∙ number-digits_in 5 read small;
    }

-- zeros in front of a label keep its number
number_under : (zeros : ℕ) (label : List ℕ) → label_number (replicate zeros 0 ++ label) ≡ label_number label
number_under zero label = refl
number_under (suc zeros) label = omega (arith, number_under zeros label)

-- the row of a label's number is the label below as many zeros as make it five digits
pub row_under : (digits : ℕ) (label : List ℕ) → IsLabel digits label → digits ≤ 5
    → get_or DIGITS (label_number label) [] ≡ replicate (5 - digits) 0 ++ label
row_under digits label is few =
    let whole : List ℕ = replicate (5 - digits) 0 ++ label in
    let small : All (λ digit. digit < 3) whole =
    All-append (λ digit. digit < 3) (replicate (5 - digits) 0) label (All-replicate (λ digit. digit < 3) (5 - digits) 0 (omega arith)) is.small in
    let len : length whole ≡ 5 = length-append (replicate (5 - digits) 0) label ∙ omega (arith, length-replicate {A = ℕ} (5 - digits) 0, is.len, few) in
    let same : label_number whole ≡ label_number label = number_under (5 - digits) label in
    let below : label_number whole < 3 ^ 5 = subst (λ k. label_number whole < 3 ^ k) len (number_fits whole small) in
    row_of (label_number label) (omega (arith, same, below)) ∙ ap (digits_in 5) (sym same)
    ∙ subst (λ k. digits_in k (label_number whole) ≡ whole) len (digits_in-number whole small)

-- zeros in front of both do not change which of two labels dominates
pub dominates_under : (zeros : ℕ) (a b : List ℕ) → dominates (replicate zeros 0 ++ a) (replicate zeros 0 ++ b) ≡ dominates a b
dominates_under zero a b = refl
dominates_under (suc zeros) a b = dominates_under zeros a b
