-- The labels that the choice looks at, after some digits of the greatest, are those that begin so.
-- The idea. The choice goes from digit to digit, and keeps the labels that share it (`reach`). The code keeps none, and
-- counts those that begin with the digits so far (`begins`). They are as many (`length-reach`, by induction over the
-- digits). So the count decides whether a digit is turned (`step_turns`) or kept (`step_keeps`).
-- Read `reach` and `begins` first, then `length-reach` and `step_keeps`.
use Rattle.std.proofs.Common.{◌≡◌, ℕ, suc, ◌+◌, ◌-◌, ◌<◌, ◌≤◌, Bool, true, false, ◌&&◌, cond, eqb, leb, List, [], ◌∷◌, ◌++◌, length, refl, sym, ap, ◌∙◌, arith, take, drop, append_assoc, replicate, length-drop}
use Rattle.std.proofs.Math.Seq.{drop-cons}
use Rattle.std.proofs.lemmas.List.{take_more}
use Rattle.std.specs.Prelude.{count_by, slice_index}
use Rattle.std.proofs.lemmas.Bool.{cond-true, cond-false, le-leb, lt-leb}
use Rattle.std.proofs.lemmas.List.Sums.{sum_by-cons}
use Rattle.label_core.specs.Labels.{sharing, choice, next_digit}

-- whether a label begins with these digits
abbrev pub begins : List ℕ → List ℕ → Bool
begins [] label = true
begins (digit ∷ digits) [] = false
begins (digit ∷ digits) (first ∷ rest) = (eqb first digit) && begins digits rest

-- what follows these digits in the labels that begin with them
abbrev pub reach : List ℕ → List (List ℕ) → List (List ℕ)
reach [] labels = labels
reach (digit ∷ digits) labels = reach digits (sharing digit labels)

pub reach-push : (digits : List ℕ) (digit : ℕ) (labels : List (List ℕ)) → reach (digits ++ digit ∷ []) labels ≡ sharing digit (reach digits labels)
reach-push [] digit labels = refl
reach-push (first ∷ digits) digit labels = reach-push digits digit (sharing first labels)

count-cons : (p : List ℕ → Bool) (label : List ℕ) (labels : List (List ℕ)) → count_by p (label ∷ labels) ≡ cond (p label) 1 0 + count_by p labels
count-cons p label labels = sum_by-cons (λ x. cond (p x) 1 0) label labels

count_sharing : (c : ℕ) (digits : List ℕ) (labels : List (List ℕ)) → count_by (begins digits) (sharing c labels) ≡ count_by (begins (c ∷ digits)) labels
count_sharing c digits [] = refl
count_sharing c digits ([] ∷ labels) = count_sharing c digits labels ∙ sym (count-cons (begins (c ∷ digits)) [] labels ∙ omega arith)
count_sharing c digits ((d ∷ label) ∷ labels) =
    let Q : Bool → Type 0 = λ t. count_by (begins digits) (cond t (label ∷ sharing c labels) (sharing c labels))
    ≡ cond {A = ℕ} (t && begins digits label) 1 0 + count_by (begins (c ∷ digits)) labels in
    let by : (t : Bool) → Q t = λ t. elim t as Q [
      | true ↦ count-cons (begins digits) label (sharing c labels) ∙ omega (arith, count_sharing c digits labels)
      | false ↦ count_sharing c digits labels ∙ omega arith
    ] in
    by (eqb d c) ∙ sym (count-cons (begins (c ∷ digits)) (d ∷ label) labels)

count_all : (labels : List (List ℕ)) → count_by (begins []) labels ≡ length labels
count_all [] = refl
count_all (label ∷ labels) = count-cons (begins []) label labels ∙ omega (arith, count_all labels)

pub length-reach : (digits : List ℕ) (labels : List (List ℕ)) → length (reach digits labels) ≡ count_by (begins digits) labels
length-reach [] labels = sym (count_all labels)
length-reach (digit ∷ digits) labels = length-reach digits (sharing digit labels) ∙ count_sharing digit digits labels

-- the choice where few share the first digit, and where too many do
pub choice_keeps : (digit : ℕ) (digits : List ℕ) (labels : List (List ℕ)) → length (sharing digit labels) ≤ length digits
    → choice (digit ∷ digits) labels ≡ digit ∷ choice digits (sharing digit labels)
choice_keeps digit digits labels few = cond-true (leb (length (sharing digit labels)) (length digits)) _ _ (le-leb _ _ few)

pub choice_turns : (digit : ℕ) (digits : List ℕ) (labels : List (List ℕ)) → length digits < length (sharing digit labels)
    → choice (digit ∷ digits) labels ≡ next_digit digit ∷ replicate (length digits) 0
choice_turns digit digits labels many = cond-false (leb (length (sharing digit labels)) (length digits)) _ _ (lt-leb _ _ many)

-- one more digit of the greatest
record Step (top : List ℕ) (at : ℕ) (labels : List (List ℕ)) : Type 0 where
  here : drop at top ≡ slice_index top at ∷ drop (at + 1) top
  front : take (at + 1) top ≡ take at top ++ slice_index top at ∷ []
  shared : reach (take (at + 1) top) labels ≡ sharing (slice_index top at) (reach (take at top) labels)
  many : length (sharing (slice_index top at) (reach (take at top) labels)) ≡ count_by (begins (take (at + 1) top)) labels
  left : length (drop (at + 1) top) ≡ length top - (at + 1)

step : (top : List ℕ) (at : ℕ) (labels : List (List ℕ)) → at < length top → Step top at labels
step top at labels inside =
    let next : suc at ≡ at + 1 = omega arith in
    let front : take (at + 1) top ≡ take at top ++ slice_index top at ∷ [] = take_more top at 0 inside in
    let shared : reach (take (at + 1) top) labels ≡ sharing (slice_index top at) (reach (take at top) labels) =
    ap (λ digits. reach digits labels) front ∙ reach-push (take at top) (slice_index top at) labels in
    record {
      here = drop-cons top at 0 inside ∙ ap (λ k. slice_index top at ∷ drop k top) next;
      front = front;
      shared = shared;
      many = ap length (sym shared) ∙ length-reach (take (at + 1) top) labels;
      left = length-drop (at + 1) top;
    }

-- where too many labels share the digits up to this one, the choice turns it
pub step_turns : (top : List ℕ) (at : ℕ) (labels : List (List ℕ)) → at < length top
    → length top - (at + 1) < count_by (begins (take (at + 1) top)) labels
    → choice top labels ≡ take at top ++ choice (drop at top) (reach (take at top) labels)
    → choice top labels ≡ take at top ++ next_digit (slice_index top at) ∷ replicate (length top - (at + 1)) 0
step_turns top at labels inside many so_far =
    let s : Step top at labels = step top at labels inside in
    so_far ∙ ap (λ rest. take at top ++ rest)
    (ap (λ digits. choice digits (reach (take at top) labels)) s.here
    ∙ choice_turns (slice_index top at) (drop (at + 1) top) (reach (take at top) labels) (omega (arith, s.many, s.left))
    ∙ ap (λ k. next_digit (slice_index top at) ∷ replicate k 0) s.left)

-- else it keeps it
pub step_keeps : (top : List ℕ) (at : ℕ) (labels : List (List ℕ)) → at < length top
    → count_by (begins (take (at + 1) top)) labels ≤ length top - (at + 1)
    → choice top labels ≡ take at top ++ choice (drop at top) (reach (take at top) labels)
    → choice top labels ≡ take (at + 1) top ++ choice (drop (at + 1) top) (reach (take (at + 1) top) labels)
step_keeps top at labels inside few so_far =
    let s : Step top at labels = step top at labels inside in
    let rest : List ℕ = choice (drop (at + 1) top) (sharing (slice_index top at) (reach (take at top) labels)) in
    so_far ∙ ap (λ rest. take at top ++ rest)
    (ap (λ digits. choice digits (reach (take at top) labels)) s.here
    ∙ choice_keeps (slice_index top at) (drop (at + 1) top) (reach (take at top) labels) (omega (arith, s.many, s.left)))
    ∙ sym (append_assoc (take at top) (slice_index top at ∷ []) rest)
    ∙ rw (s.shared, s.front) refl
