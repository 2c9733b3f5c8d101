-- The label that the choice rule gives dominates each of the others.
--
-- It is enough that no label dominates the greatest and that there are at most as many labels as
-- digits. Where few share the first digit, the new label shares it too: those that share it are
-- dominated by the rest of it, and the others by its first digit. Where too many share it, all do,
-- and the next digit dominates them.
use Rattle.std.proofs.Common.{◌≡◌, ℕ, suc, zero, ◌<◌, ◌≤◌, Bool, true, false, not, cond, eqb, leb, List, [], ◌∷◌, length, replicate, refl, sym, ap, ◌∙◌, arith}
use Rattle.std.specs.Prelude.{All}
use Rattle.std.specs.List.{AllByRecursion}
use Rattle.std.proofs.lemmas.Bool.{cond-true, cond-false, eqb-true, eq-eqb, leb-true, leb-false}
use Rattle.std.proofs.lemmas.List.{length-replicate}
use Rattle.std.proofs.lemmas.List.Elements.{All-head, All-tail, All-cons, All-replicate}
use Rattle.label_core.specs.Labels.{next_digit, dominates, sharing, choice}
use Rattle.label_core.proofs.Domination.{turn}

-- a label of the same length as `top` that does not dominate it
pub record NotOver (top label : List ℕ) : Type 0 where
  pub len : length label ≡ length top
  pub small : All (λ digit. digit < 3) label
  pub below : dominates label top ≡ false

-- every label of the list is dominated by this one
abbrev pub Beaten : List ℕ → List (List ℕ) → Type 0
Beaten label labels = AllByRecursion (λ other. dominates label other ≡ true) labels

small_head : (d : ℕ) (label : List ℕ) → All (λ digit. digit < 3) (d ∷ label) → d < 3
small_head d label small = All-head (λ digit. digit < 3) d label small

small_tail : (d : ℕ) (label : List ℕ) → All (λ digit. digit < 3) (d ∷ label) → All (λ digit. digit < 3) label
small_tail d label small = All-tail (λ digit. digit < 3) d label small

-- the rest of a label that shares the first digit does not dominate the rest of `top`
not_over_tail : (c d : ℕ) (top label : List ℕ) → eqb d c ≡ true → NotOver (c ∷ top) (d ∷ label) → NotOver top label
not_over_tail c d top label here h =
    let len' : suc (length label) ≡ suc (length top) = h.len in
    record {
      len = omega arith;
      small = small_tail d label h.small;
      below = sym (cond-true (eqb d c) (dominates label top) (eqb d (next_digit c)) here) ∙ h.below;
    }

-- `first` shares the digit `c` and its rest stands in front, or it does not
sharing_cases : (P : List (List ℕ) → Type 0) (c d : ℕ) (label : List ℕ) (labels : List (List ℕ))
    → (eqb d c ≡ true → P (label ∷ sharing c labels)) → (eqb d c ≡ false → P (sharing c labels))
    → P (sharing c ((d ∷ label) ∷ labels))
sharing_cases P c d label labels shares differs =
    let Q : Bool → Type 0 = λ t. eqb d c ≡ t → P (cond t (label ∷ sharing c labels) (sharing c labels)) in
    let by : (t : Bool) → Q t = λ t. elim t as Q [ true ↦ λ here. shares here | false ↦ λ here. differs here ] in
    by (eqb d c) refl

sharing_not_over : (c : ℕ) (top : List ℕ) (labels : List (List ℕ)) → AllByRecursion (NotOver (c ∷ top)) labels
    → AllByRecursion (NotOver top) (sharing c labels)
sharing_not_over c top [] h = tt
sharing_not_over c top ([] ∷ labels) h = let none : 0 ≡ suc (length top) = h.0.len in absurd (omega arith)
sharing_not_over c top ((d ∷ label) ∷ labels) h =
    sharing_cases (AllByRecursion (NotOver top)) c d label labels
    (λ here. (not_over_tail c d top label here h.0, sharing_not_over c top labels h.1))
    (λ here. sharing_not_over c top labels h.1)

length-sharing-le : (c : ℕ) (labels : List (List ℕ)) → length (sharing c labels) ≤ length labels
length-sharing-le c [] = omega arith
length-sharing-le c ([] ∷ labels) = omega (arith, length-sharing-le c labels)
length-sharing-le c ((d ∷ label) ∷ labels) =
    sharing_cases (λ few. length few ≤ suc (length labels)) c d label labels
    (λ here. omega (arith, length-sharing-le c labels))
    (λ here. omega (arith, length-sharing-le c labels))

-- beside its first digit `c`, a label whose rest beats the rests of those that share it beats all
kept_beats : (c : ℕ) (top rest : List ℕ) (labels : List (List ℕ)) → c < 3 → AllByRecursion (NotOver (c ∷ top)) labels
    → Beaten rest (sharing c labels) → Beaten (c ∷ rest) labels
kept_beats c top rest [] small h beaten = tt
kept_beats c top rest ([] ∷ labels) small h beaten = let none : 0 ≡ suc (length top) = h.0.len in absurd (omega arith)
kept_beats c top rest ((d ∷ label) ∷ labels) small h beaten =
    let Q : Bool → Type 0 = λ t. eqb d c ≡ t → Beaten rest (cond t (label ∷ sharing c labels) (sharing c labels))
    → cond t (dominates label top) (eqb d (next_digit c)) ≡ false → Beaten (c ∷ rest) ((d ∷ label) ∷ labels) in
    let by : (t : Bool) → Q t = λ t. elim t as Q [
      | true ↦ λ here those below.
          (cond-true (eqb c d) _ _ (eq-eqb c d (sym (eqb-true d c here))) ∙ those.0, kept_beats c top rest labels small h.1 those.1)
      | false ↦ λ here those below. (
        (cond-false (eqb c d) (dominates rest label) (eqb c (next_digit d)) (grind (arith, here)))
            ∙ turn d c (small_head d label h.0.small) small here ∙ ap not below,
        kept_beats c top rest labels small h.1 those,
      )
    ] in
    by (eqb d c) refl beaten h.0.below

next_is_over : (c : ℕ) → c < 3 → eqb (next_digit c) c ≡ false
next_is_over zero small = refl
next_is_over (suc zero) small = refl
next_is_over (suc (suc zero)) small = refl
next_is_over (suc (suc (suc c))) small = absurd (omega arith)

-- where all share the digit `c`, a label with the next digit beats all
turned_beats : (c : ℕ) (top rest : List ℕ) (labels : List (List ℕ)) → c < 3 → AllByRecursion (NotOver (c ∷ top)) labels
    → length labels ≤ length (sharing c labels) → Beaten (next_digit c ∷ rest) labels
turned_beats c top rest [] small h all = tt
turned_beats c top rest ([] ∷ labels) small h all = let none : 0 ≡ suc (length top) = h.0.len in absurd (omega arith)
turned_beats c top rest ((d ∷ label) ∷ labels) small h all =
    let Q : Bool → Type 0 = λ t. eqb d c ≡ t → suc (length labels) ≤ length (cond t (label ∷ sharing c labels) (sharing c labels))
    → Beaten (next_digit c ∷ rest) ((d ∷ label) ∷ labels) in
    let by : (t : Bool) → Q t = λ t. elim t as Q [
      | true ↦ λ here those. (
        rw (eqb-true d c here, next_is_over c small) (eq-eqb (next_digit c) (next_digit c) refl),
        turned_beats c top rest labels small h.1 (omega arith),
      )
      | false ↦ λ here those. absurd (omega (arith, length-sharing-le c labels))
    ] in
    by (eqb d c) refl all

-- the choice beats each of the labels
pub choice_beats : (top : List ℕ) (labels : List (List ℕ)) → All (λ digit. digit < 3) top → AllByRecursion (NotOver top) labels
    → length labels ≤ length top → Beaten (choice top labels) labels
choice_beats [] [] small h few = tt
choice_beats [] (label ∷ labels) small h few = absurd (omega arith)
choice_beats (c ∷ top) labels small h few =
    let shared = sharing c labels in
    let Q : Bool → Type 0 = λ t. leb (length shared) (length top) ≡ t
    → Beaten (cond t (c ∷ choice top shared) (next_digit c ∷ replicate (length top) 0)) labels in
    let by : (t : Bool) → Q t = λ t. elim t as Q [
      | true ↦ λ here. kept_beats c top (choice top shared) labels (small_head c top small) h
          (choice_beats top shared (small_tail c top small) (sharing_not_over c top labels h) (leb-true _ _ here))
      | false ↦ λ here. turned_beats c top (replicate (length top) 0) labels (small_head c top small) h
          (let many : length top < length shared = leb-false _ _ here in omega arith)
    ] in
    by (leb (length shared) (length top)) refl

next_digit_small : (c : ℕ) → next_digit c < 3
next_digit_small c = omega arith

-- the choice has as many digits as the greatest
pub length-choice : (top : List ℕ) (labels : List (List ℕ)) → length (choice top labels) ≡ length top
length-choice [] labels = refl
length-choice (c ∷ top) labels =
    let shared = sharing c labels in
    let Q : Bool → Type 0 = λ t. length (cond t (c ∷ choice top shared) (next_digit c ∷ replicate (length top) 0)) ≡ suc (length top) in
    let by : (t : Bool) → Q t = λ t. elim t as Q [ true ↦ ap suc (length-choice top shared) | false ↦ ap suc (length-replicate (length top) 0) ] in
    by (leb (length shared) (length top))

pub small-choice : (top : List ℕ) (labels : List (List ℕ)) → All (λ digit. digit < 3) top → All (λ digit. digit < 3) (choice top labels)
small-choice [] labels small = small
small-choice (c ∷ top) labels small =
    let shared = sharing c labels in
    let Q : Bool → Type 0 = λ t. All (λ digit. digit < 3) (cond t (c ∷ choice top shared) (next_digit c ∷ replicate (length top) 0)) in
    let by : (t : Bool) → Q t = λ t. elim t as Q [
      | true ↦ All-cons (λ digit. digit < 3) c (choice top shared) (small_head c top small) (small-choice top shared (small_tail c top small))
      | false ↦ All-cons (λ digit. digit < 3) (next_digit c) (replicate (length top) 0) (next_digit_small c) (All-replicate (λ digit. digit < 3) (length top) 0 (omega arith))
    ] in
    by (leb (length shared) (length top))
