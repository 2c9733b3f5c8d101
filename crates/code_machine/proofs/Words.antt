-- What the crate of words offers of labels in order, and when two lists of labels are the same.
use Rattle.std.proofs.Common.{◌≡◌, ℕ, ◌<◌, ◌≤◌, true, List, [], ◌∷◌, Option, None, Some, length, refl, ap, sym, ◌∙◌, arith}
use Rattle.std.specs.Prelude.{◌==◌, ◌&&◌}
use Rattle.std.specs.Cmp.{both_ways}
use Rattle.std.proofs.lemmas.Bool.{eqb-true, eq-eqb}
use Rattle.label_core.specs.Labels.{same_label}
use Rattle.word_core.specs.Stamps.{Labels, start_labels, stamped, cleared}
use Rattle.word_core.specs.Packed.{AreLabels, word}
use Rattle.word_core.proofs.Offered.{start_are, start_ordered, stamped_are, stamped_ordered, cleared_are, cleared_ordered, distinct_law}
use Rattle.code_machine.specs.Machine.{same_held, same_labels}
use Rattle.code_machine.specs.Safety.{AreOrdered}
use Rattle.code_machine.proofs.Fine.{both_true}

pub start_in_order : (n : ℕ) → AreOrdered n (start_labels n)
start_in_order n = record { are = start_are n; ordered = start_ordered n }

pub stamped_in_order : (n p : ℕ) (labels : Labels) → AreOrdered n labels → p < n → AreOrdered n (stamped p labels)
stamped_in_order n p labels h in_p =
    let inside : p < length labels = omega (arith, h.are.count) in
    record { are = stamped_are n p labels h.are h.ordered inside; ordered = stamped_ordered n p labels h.are h.ordered inside }

pub cleared_in_order : (n p : ℕ) (labels : Labels) → AreOrdered n labels → AreOrdered n (cleared p labels)
cleared_in_order n p labels h = record { are = cleared_are n p labels h.are; ordered = cleared_ordered p labels h.ordered }

equal_label : (a b : List ℕ) → same_label a b ≡ true → a ≡ b
equal_label [] [] same = refl
equal_label [] (digit ∷ digits) same = (cc)
equal_label (digit ∷ digits) [] same = (cc)
equal_label (digit ∷ digits) (other ∷ others) same =
    let h = both_true (digit == other) (same_label digits others) same in
    λ i. eqb-true digit other h.0 i ∷ equal_label digits others h.1 i

label_self : (a : List ℕ) → same_label a a ≡ true
label_self [] = refl
label_self (digit ∷ digits) = ap (λ t. t && same_label digits digits) (eq-eqb digit digit refl) ∙ label_self digits

equal_held : (a b : Option (List ℕ)) → same_held a b ≡ true → a ≡ b
equal_held None None same = refl
equal_held None (Some label) same = (cc)
equal_held (Some label) None same = (cc)
equal_held (Some label) (Some other) same = ap Some (equal_label label other same)

held_self : (a : Option (List ℕ)) → same_held a a ≡ true
held_self None = refl
held_self (Some label) = label_self label

pub equal_labels : (a b : Labels) → same_labels a b ≡ true → a ≡ b
equal_labels [] [] same = refl
equal_labels [] (label ∷ labels) same = (cc)
equal_labels (label ∷ labels) [] same = (cc)
equal_labels (label ∷ labels) (other ∷ others) same =
    let h = both_true (same_held label other) (same_labels labels others) same in
    λ i. equal_held label other h.0 i ∷ equal_labels labels others h.1 i

pub labels_self : (a : Labels) → same_labels a a ≡ true
labels_self [] = refl
labels_self (label ∷ labels) = ap (λ t. t && same_labels labels labels) (held_self label) ∙ labels_self labels

-- two words are equal exactly where they hold the same labels
pub equal_words : (n : ℕ) → n ≤ 6 → (a b : Labels) → AreLabels n a → AreLabels n b
    → ((length a == length b) && (word a == word b)) ≡ same_labels a b
equal_words n few a b are_a are_b =
    both_ways ((length a == length b) && (word a == word b)) (same_labels a b)
    (λ equal.
    let packed = both_true (length a == length b) (word a == word b) equal in
    let same : a ≡ b = distinct_law n few a b are_a are_b (eqb-true (word a) (word b) packed.1) in
    ap (same_labels a) (sym same) ∙ labels_self a)
    (λ same.
    let equal : a ≡ b = equal_labels a b same in
    let long : (length a == length b) ≡ true = eq-eqb (length a) (length b) (ap length equal) in
    let packed : (word a == word b) ≡ true = eq-eqb (word a) (word b) (ap word equal) in
    (λ i. long i && packed i))
