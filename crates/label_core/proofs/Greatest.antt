-- The greatest of some labels, and that the next label dominates each of them.
--
-- The idea. Of two labels of one length the one dominates or equals the other exactly where that one does
-- not dominate it (`at_least_turn`). So where one of the labels is greatest the search finds a label that
-- none of them dominates (`top_of`), and the choice beside it dominates each of them (`next_is`, by
-- `choice_beats` of `Choices.antt`). What the search finds is as long as the labels are (`greatest_alike`).
use Rattle.std.proofs.Common.{◌≡◌, ℕ, suc, ◌-◌, ◌<◌, Bool, true, false, not, ◌||◌, cond, Some, List, [], ◌∷◌, refl, sym, ap, ◌∙◌, subst, arith, inl, inr, ⊎_elim}
use Rattle.std.specs.Prelude.{All, Contains, find, ◌⊎◌}
use Rattle.std.specs.List.{AllByRecursion, list_all}
use Rattle.std.proofs.lemmas.Bool.{cases_Bool, and_parts, and_from, both_ways, or_right}
use Rattle.std.proofs.lemmas.List.{length-replicate}
use Rattle.std.proofs.lemmas.List.Elements.{All-cons, All-contains, All-from_recursion, All-replicate, recursion_from_All}
use Rattle.label_core.specs.Labels.{IsLabel, dominates, same_label, at_least, is_greatest, greatest, choice, choice_beside, next, zeros, AreAlike, HasGreatest, CanChoose}
use Rattle.label_core.proofs.Domination.{dominates_self, equal_from_same, dominates_turn}
use Rattle.label_core.proofs.Choices.{NotOver, Beaten, choice_beats, length-choice, small-choice}

-- a label dominates or equals another exactly where that one does not dominate it
pub at_least_turn : (m : ℕ) (a b : List ℕ) → IsLabel m a → IsLabel m b → at_least a b ≡ not (dominates b a)
at_least_turn m a b is_a is_b =
    let Q : Bool → Type 0 = λ t. same_label a b ≡ t → (dominates a b || t) ≡ not (dominates b a) in
    let by : (t : Bool) → Q t = λ t. elim t as Q [
      | true ↦ λ same.
          or_right (dominates a b) true refl
          ∙ sym (ap not (ap (λ label. dominates label a) (sym (equal_from_same a b same)) ∙ dominates_self a))
      | false ↦ λ differ.
          let turned : dominates b a ≡ not (dominates a b) = dominates_turn a b (is_a.len ∙ sym is_b.len) is_a.small is_b.small differ in
          rw turned (elim (dominates a b) as (λ t. (t || false) ≡ not (not t)) [ true ↦ refl | false ↦ refl ])
    ] in
    by (same_label a b) refl

-- two labels that each dominate or equal the other are one
pub equal_from_at_least : (m : ℕ) (a b : List ℕ) → IsLabel m a → IsLabel m b → at_least a b ≡ true → at_least b a ≡ true → a ≡ b
equal_from_at_least m a b is_a is_b over under =
    ⊎_elim (λ same. equal_from_same a b same)
    (λ differ.
    let turned : dominates b a ≡ not (dominates a b) = dominates_turn a b (is_a.len ∙ sym is_b.len) is_a.small is_b.small differ in
    let not_b : not (dominates b a) ≡ true = sym (at_least_turn m a b is_a is_b) ∙ over in
    let not_a : not (dominates a b) ≡ true = sym (at_least_turn m b a is_b is_a) ∙ under in
    let b_over : dominates b a ≡ true = turned ∙ not_a in
    let none : false ≡ true = ap not (sym b_over) ∙ not_b in
    cc)
    (cases_Bool (same_label a b))

all_pass : {X : Type 0} (p : X → Bool) (xs : List X) → AllByRecursion (λ x. p x ≡ true) xs → list_all p xs ≡ true
all_pass p [] h = refl
all_pass p (x ∷ xs) h = and_from (p x) (list_all p xs) h.0 (all_pass p xs h.1)

each_at_least : (m : ℕ) (labels : List (List ℕ)) (label : List ℕ) → IsLabel m label → AllByRecursion (IsLabel m) labels
    → AllByRecursion (λ other. dominates other label ≡ false) labels → AllByRecursion (λ other. at_least label other ≡ true) labels
each_at_least m [] label is are under = tt
each_at_least m (other ∷ labels) label is are under =
    (at_least_turn m label other is are.0 ∙ ap not under.0, each_at_least m labels label is are.1 under.1)

-- two labels of which neither dominates the other are one
pub equal_from_neither : (m : ℕ) (a b : List ℕ) → IsLabel m a → IsLabel m b → dominates a b ≡ false → dominates b a ≡ false → a ≡ b
equal_from_neither m a b is_a is_b not_a not_b =
    equal_from_at_least m a b is_a is_b (at_least_turn m a b is_a is_b ∙ ap not not_b) (at_least_turn m b a is_b is_a ∙ ap not not_a)

-- one of the labels that none of them dominates is greatest
pub greatest_from_undominated : (m : ℕ) (labels : List (List ℕ)) (label : List ℕ) → All (IsLabel m) labels → Contains labels label
    → All (λ other. dominates other label ≡ false) labels → HasGreatest labels
greatest_from_undominated m labels label are member under =
    let is : IsLabel m label = All-contains (IsLabel m) labels label are member in
    record {
      label = label;
      member = member;
      over = all_pass (at_least label) labels (each_at_least m labels label is
          (recursion_from_All (IsLabel m) labels are) (recursion_from_All (λ other. dominates other label ≡ false) labels under));
    }

pub each_passes : {X : Type 0} (p : X → Bool) (xs : List X) → list_all p xs ≡ true → AllByRecursion (λ x. p x ≡ true) xs
each_passes p [] all = tt
each_passes p (x ∷ xs) all = let parts = and_parts (p x) (list_all p xs) all in (parts.0, each_passes p xs parts.1)

-- the first item that passes a test
record Found {X : Type 0} (p : X → Bool) (xs : List X) : Type 0 where
  item : X
  first : find p xs ≡ Some item
  member : Contains xs item
  passes : p item ≡ true

later : {X : Type 0} (p : X → Bool) (x : X) (xs : List X) → p x ≡ false → Found p xs → Found p (x ∷ xs)
later p x xs fails found = record {
  item = found.item;
  first = ap (λ t. cond t (Some x) (find p xs)) fails ∙ found.first;
  member = (suc found.member.0, omega (arith, found.member.1), found.member.2);
  passes = found.passes;
}

find_cases : {X : Type 0} (p : X → Bool) (xs : List X) → AllByRecursion (λ x. p x ≡ false) xs ⊎ Found p xs
find_cases p [] = inl tt
find_cases p (x ∷ xs) =
    ⊎_elim
    (λ passes. inr (record { item = x; first = ap (λ t. cond t (Some x) (find p xs)) passes; member = (0, omega arith, refl); passes = passes }))
    (λ fails. ⊎_elim (λ none. inl (fails, none)) (λ found. inr (later p x xs fails found)) (find_cases p xs))
    (cases_Bool (p x))

pub record Top (labels : List (List ℕ)) : Type 0 where
  pub label : List ℕ
  pub is : greatest labels ≡ Some label
  pub member : Contains labels label
  pub over : AllByRecursion (λ other. at_least label other ≡ true) labels

-- where one of the labels is greatest, it is found
pub top_of : (labels : List (List ℕ)) → HasGreatest labels → Top labels
top_of labels has =
    ⊎_elim
    (λ none. absurd (both_ways (is_greatest labels has.label)
    (All-contains (λ label. is_greatest labels label ≡ false) labels has.label
    (All-from_recursion (λ label. is_greatest labels label ≡ false) labels none) has.member)
    has.over))
    (λ found. record { label = found.item; is = found.first; member = found.member; over = each_passes (at_least found.item) labels found.passes })
    (find_cases (is_greatest labels) labels)

not_over_from : (m : ℕ) (top : List ℕ) (labels : List (List ℕ)) → IsLabel m top → AllByRecursion (IsLabel m) labels
    → AllByRecursion (λ other. at_least top other ≡ true) labels → AllByRecursion (NotOver top) labels
not_over_from m top [] is_top are over = tt
not_over_from m top (label ∷ labels) is_top are over =
    let turned : not (dominates label top) ≡ true = sym (at_least_turn m top label is_top are.0) ∙ over.0 in (
      record {
        len = are.0.len ∙ sym is_top.len;
        small = are.0.small;
        below = elim (dominates label top) as (λ t. not t ≡ true → t ≡ false) [ true ↦ λ e. sym e | false ↦ λ e. refl ] turned;
      },
      not_over_from m top labels is_top are.1 over.1,
    )

-- what the next label beside these labels is
pub record IsNext (m : ℕ) (labels : List (List ℕ)) (label : List ℕ) : Type 0 where
  pub is : IsLabel m label
  pub beats : Beaten label labels

pub zeros_label : (m : ℕ) → IsLabel m (zeros m)
zeros_label m = record { len = length-replicate m 0; small = All-replicate (λ digit. digit < 3) m 0 (omega arith) }

pub next_is : (n : ℕ) (others : List (List ℕ)) → CanChoose n others → IsNext (n - 1) others (next n others)
next_is n [] can = record { is = zeros_label (n - 1); beats = tt }
next_is n (other ∷ others) can =
    let labels : List (List ℕ) = other ∷ others in
    let top : Top labels = top_of labels (can.top (omega arith)) in
    let is_top : IsLabel (n - 1) top.label = All-contains (IsLabel (n - 1)) labels top.label can.labels top.member in
    let are : AllByRecursion (IsLabel (n - 1)) labels = recursion_from_All (IsLabel (n - 1)) labels can.labels in
    let chosen : IsNext (n - 1) labels (choice top.label labels) = record {
      is = record { len = length-choice top.label labels ∙ is_top.len; small = small-choice top.label labels is_top.small };
      beats = choice_beats top.label labels is_top.small (not_over_from (n - 1) top.label labels is_top are top.over)
          (omega (arith, can.few, is_top.len));
    } in
    subst (λ found. IsNext (n - 1) labels (choice_beside (n - 1) found labels)) (sym top.is) chosen

found_all : {X : Type 0} (p : X → Bool) (P : X → Type 0) (xs : List X) (x : X) → AllByRecursion P xs → find p xs ≡ Some x → P x
found_all p P [] x all found = cc
found_all p P (y ∷ ys) x all found =
    let Q : Bool → Type 0 = λ t. cond t (Some y) (find p ys) ≡ Some x → P x in
    let by : (t : Bool) → Q t = λ t. elim t as Q [
      | true ↦ λ is. let same : y ≡ x = cc in subst P same all.0
      | false ↦ λ is. found_all p P ys x all.1 is
    ] in
    by (p y) found

-- the greatest is as long as the labels are
pub greatest_alike : (m : ℕ) (labels : List (List ℕ)) (label : List ℕ) → All (IsLabel m) labels → greatest labels ≡ Some label → AreAlike (label ∷ labels)
greatest_alike m labels label are is =
    (m, All-cons (IsLabel m) label labels (found_all (is_greatest labels) (IsLabel m) labels label (recursion_from_All (IsLabel m) labels are) is) are)
