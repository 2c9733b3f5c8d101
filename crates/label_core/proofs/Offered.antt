-- The lemmas on labels that other crates may cite.
use Rattle.std.proofs.Common.{subst}
use Rattle.std.specs.Prelude.{◌≡◌, ℕ, ◌^◌, ◌<◌, ◌≤◌, true, false, List, All, Contains}
use Rattle.std.proofs.lemmas.List.Elements.{All-from_recursion}
use Rattle.label_core.specs.Labels.{IsLabel, IsNumbered, HasGreatest, dominates, label_number, digits_in, next, zeros}
use Rattle.label_core.specs.Laws.{NextLaw}
use Rattle.label_core.specs.prover.Numbers
use Rattle.label_core.proofs.Domination
use Rattle.label_core.proofs.Greatest
use Rattle.label_core.proofs.Held

pub zeros_label : (digits : ℕ) → IsLabel digits (zeros digits)
zeros_label = Greatest.zeros_label

-- the digits of a number are the label that is read as it
pub numbered : (digits read : ℕ) → read < 3 ^ digits → IsNumbered digits read (digits_in digits read)
numbered = Held.numbered

-- and a label is the digits of its number
pub numbered_back : (digits : ℕ) (label : List ℕ) → IsLabel digits label → digits_in digits (label_number label) ≡ label
numbered_back digits label is = subst (λ k. digits_in k (label_number label) ≡ label) is.len (Numbers.digits_in-number label is.small)

pub number_fits : (digits : ℕ) (label : List ℕ) → IsLabel digits label → label_number label < 3 ^ digits
number_fits digits label is = subst (λ k. label_number label < 3 ^ k) is.len (Numbers.number_fits label is.small)

-- at most five digits fit a byte
pub numbers_fit : (digits read : ℕ) → digits ≤ 5 → read < 3 ^ digits → read < 243
numbers_fit = Held.number_in_table

pub some_numbers : (digits : ℕ) → 0 < 3 ^ digits
some_numbers = Numbers.some_labels

pub zeros_numbered : (digits : ℕ) → digits_in digits 0 ≡ zeros digits
zeros_numbered = Held.zeros_held

-- no label dominates itself
pub dominates_self : (label : List ℕ) → dominates label label ≡ false
dominates_self = Domination.dominates_self

-- no two labels dominate each other
pub dominates_one_way : (a b : List ℕ) → dominates a b ≡ true → dominates b a ≡ false
dominates_one_way = Domination.dominates_one_way

-- two labels of one length of which neither dominates the other are one
pub equal_from_neither : (digits : ℕ) (a b : List ℕ) → IsLabel digits a → IsLabel digits b → dominates a b ≡ false → dominates b a ≡ false → a ≡ b
equal_from_neither = Greatest.equal_from_neither

-- one of the labels that none of them dominates is greatest
pub greatest_from_undominated : (digits : ℕ) (labels : List (List ℕ)) (label : List ℕ) → All (IsLabel digits) labels → Contains labels label
    → All (λ other. dominates other label ≡ false) labels → HasGreatest labels
greatest_from_undominated = Greatest.greatest_from_undominated

-- the next label has its digits and dominates each of the others
pub next_law : NextLaw
next_law n others can =
    let new = Greatest.next_is n others can in
    record { is = new.is; dominates = All-from_recursion (λ other. dominates (next n others) other ≡ true) others new.beats }
