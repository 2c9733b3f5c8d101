-- A scan of some labels for the greatest, which keeps a label until one dominates it.
use Rattle.std.proofs.Common.{◌≡◌, ℕ, suc, zero, ◌+◌, ◌<◌, true, false, not, Some, List, [], ◌∷◌, length, get_or, refl, sym, ap, ◌∙◌, subst, arith, drop, inl, inr, ⊎_elim}
use Rattle.std.specs.Prelude.{All, Contains, ◌⊎◌, slice_get, unwrap_or}
use Rattle.std.proofs.Math.Seq.{drop-cons}
use Rattle.std.proofs.lemmas.Bool.{both_ways}
use Rattle.std.proofs.lemmas.List.Elements.{All-contains, All-from_recursion}
use Rattle.label_core.specs.Labels.{IsLabel, HasGreatest, dominates, at_least, greatest}
use Rattle.label_core.proofs.Greatest.{Top, top_of, at_least_turn, equal_from_at_least}

abbrev pub best : List (List ℕ) → List ℕ
best labels = unwrap_or (greatest labels) []

-- `top` is one of the labels, and the best is still to come or `top` itself
pub record Scanning (labels rest : List (List ℕ)) (top : List ℕ) : Type 0 where
  pub member : Contains labels top
  pub ahead : Contains rest (best labels) ⊎ (top ≡ best labels)

best_is : (labels : List (List ℕ)) (top : Top labels) → top.label ≡ best labels
best_is labels top = sym (ap (λ found. unwrap_or found []) top.is)

pub starts : (labels : List (List ℕ)) → HasGreatest labels → (first : List ℕ) → Contains labels first → Scanning labels labels first
starts labels has first member =
    let top : Top labels = top_of labels has in
    record { member = member; ahead = inl (subst (Contains labels) (best_is labels top) top.member) }

over_all : (labels : List (List ℕ)) → HasGreatest labels → (label : List ℕ) → Contains labels label → at_least (best labels) label ≡ true
over_all labels has label member =
    let top : Top labels = top_of labels has in
    subst (λ best. at_least best label ≡ true) (best_is labels top)
    (All-contains (λ other. at_least top.label other ≡ true) labels label (All-from_recursion (λ other. at_least top.label other ≡ true) labels top.over) member)

best_member : (labels : List (List ℕ)) → HasGreatest labels → Contains labels (best labels)
best_member labels has = let top : Top labels = top_of labels has in subst (Contains labels) (best_is labels top) top.member

not_over_best : (m : ℕ) (labels : List (List ℕ)) → All (IsLabel m) labels → HasGreatest labels → (label : List ℕ) → Contains labels label
    → dominates label (best labels) ≡ false
not_over_best m labels are has label member =
    let turned : at_least (best labels) label ≡ not (dominates label (best labels)) =
    at_least_turn m (best labels) label (All-contains (IsLabel m) labels (best labels) are (best_member labels has)) (All-contains (IsLabel m) labels label are member) in
    let clear : not (dominates label (best labels)) ≡ true = sym turned ∙ over_all labels has label member in
    elim (dominates label (best labels)) as (λ t. not t ≡ true → t ≡ false) [ true ↦ λ e. sym e | false ↦ λ e. refl ] clear

-- the item of a list that is its first or one of the others
member_cases : (x : List ℕ) (xs : List (List ℕ)) (y : List ℕ) → Contains (x ∷ xs) y → (x ≡ y) ⊎ Contains xs y
member_cases x xs y (zero, inside, is) = inl is
member_cases x xs y (suc k, inside, is) = inr (k, omega arith, is)

-- a label that dominates what was kept takes its place
pub takes : (m : ℕ) (labels rest : List (List ℕ)) (label top : List ℕ) → All (IsLabel m) labels → HasGreatest labels
    → Contains labels label → Scanning labels (label ∷ rest) top → dominates label top ≡ true → Scanning labels rest label
takes m labels rest label top are has member h over = record {
  member = member;
  ahead = ⊎_elim
      (λ come. ⊎_elim (λ here. inr here) (λ later. inl later) (member_cases label rest (best labels) come))
      (λ kept. absurd (both_ways (dominates label top) (ap (dominates label) kept ∙ not_over_best m labels are has label member) over))
      h.ahead;
}

-- what no label dominates is kept
pub keeps : (m : ℕ) (labels rest : List (List ℕ)) (label top : List ℕ) → All (IsLabel m) labels → HasGreatest labels
    → Scanning labels (label ∷ rest) top → dominates label top ≡ false → Scanning labels rest top
keeps m labels rest label top are has h below = record {
  member = h.member;
  ahead = ⊎_elim
      (λ come. ⊎_elim
      (λ here.
      let is_best : IsLabel m (best labels) = All-contains (IsLabel m) labels (best labels) are (best_member labels has) in
      let is_top : IsLabel m top = All-contains (IsLabel m) labels top are h.member in
      let under : dominates (best labels) top ≡ false = ap (λ x. dominates x top) (sym here) ∙ below in
      inr (equal_from_at_least m top (best labels) is_top is_best
      (at_least_turn m top (best labels) is_top is_best ∙ ap not under)
      (over_all labels has top h.member)))
      (λ later. inl later)
      (member_cases label rest (best labels) come))
      (λ kept. inr kept)
      h.ahead;
}

pub ends : (labels : List (List ℕ)) (top : List ℕ) → HasGreatest labels → Scanning labels [] top → Some top ≡ greatest labels
ends labels top has h =
    let found : Top labels = top_of labels has in
    ⊎_elim
    (λ come. absurd (omega (arith, come.1)))
    (λ kept. ap Some (kept ∙ sym (best_is labels found)) ∙ sym found.is)
    h.ahead

-- what a slice gives as its first item is one of its items
pub first_contained : (labels : List (List ℕ)) (x : List ℕ) → Some x ≡ slice_get labels 0 → (0 < length labels) × Contains labels x
first_contained [] x is = cc
first_contained (y ∷ labels) x is = let same : x ≡ y = cc in (omega arith, (0, omega arith, sym same))

pub drop_item : (labels : List (List ℕ)) (i : ℕ) (x : List ℕ) → i < length labels → x ≡ get_or labels i x → drop i labels ≡ x ∷ drop (i + 1) labels
drop_item labels i x inside is =
    let next : suc i ≡ i + 1 = omega arith in
    drop-cons labels i x inside ∙ rw (← is, next) refl
