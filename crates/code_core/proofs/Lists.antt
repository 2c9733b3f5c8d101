-- Lists read at places.
use Rattle.std.proofs.Common.{◌≡◌, ◌⊎◌, inl, inr, ⊎_elim, ℕ, zero, suc, ◌+◌, ◌<◌, List, [], ◌∷◌, ◌++◌, refl, ap, ◌∙◌, sym, length, drop, set, replicate, arith, Some, add-one}
use Rattle.std.specs.Prelude.{◌≢◌, slice_get}
use Rattle.std.proofs.lemmas.Bool.{cases_eq}
use Rattle.std.proofs.lemmas.List.{length-set}
use Rattle.std.proofs.lemmas.Option.{same_Some, none-some, slice_get_within}

pub get_front : {X : Type 0} (xs ys : List X) (k : ℕ) → k < length xs → slice_get (xs ++ ys) k ≡ slice_get xs k
get_front [] ys k inside = absurd (omega arith)
get_front (x ∷ xs) ys zero inside = refl
get_front (x ∷ xs) ys (suc k) inside = get_front xs ys k (omega arith)

pub get_seam : {X : Type 0} (xs : List X) (y : X) (ys : List X) → slice_get (xs ++ y ∷ ys) (length xs) ≡ Some y
get_seam [] y ys = refl
get_seam (x ∷ xs) y ys = get_seam xs y ys

pub get-snoc : {X : Type 0} (xs : List X) (x : X) (k : ℕ) (y : X) → slice_get (xs ++ x ∷ []) k ≡ Some y → (slice_get xs k ≡ Some y) ⊎ ((k ≡ length xs) × (x ≡ y))
get-snoc [] x zero y at = inr (refl, same_Some x y at)
get-snoc [] x (suc k) y at = absurd (none-some y at)
get-snoc (z ∷ xs) x zero y at = inl at
get-snoc (z ∷ xs) x (suc k) y at = ⊎_elim inl (λ (there, same). inr (ap suc there, same)) (get-snoc xs x k y at)

pub get_set_same : {X : Type 0} (xs : List X) (k : ℕ) (x : X) → k < length xs → slice_get (set xs k x) k ≡ Some x
get_set_same [] k x inside = absurd (omega arith)
get_set_same (y ∷ xs) zero x inside = refl
get_set_same (y ∷ xs) (suc k) x inside = get_set_same xs k x (omega arith)

pub get_set_other : {X : Type 0} (xs : List X) (k j : ℕ) (x : X) → j ≢ k → slice_get (set xs k x) j ≡ slice_get xs j
get_set_other [] k j x apart = refl
get_set_other (y ∷ xs) zero zero x apart = absurd (apart refl)
get_set_other (y ∷ xs) zero (suc j) x apart = refl
get_set_other (y ∷ xs) (suc k) zero x apart = refl
get_set_other (y ∷ xs) (suc k) (suc j) x apart = get_set_other xs k j x (λ e. apart (ap suc e))

pub get-set : {X : Type 0} (xs : List X) (k j : ℕ) (x y : X) → slice_get (set xs k x) j ≡ Some y → ((j ≡ k) × (x ≡ y)) ⊎ ((j ≢ k) × (slice_get xs j ≡ Some y))
get-set xs k j x y at =
    ⊎_elim
    (λ same.
    let inside = slice_get_within (set xs k x) j y at in
    inl (same, same_Some x y (sym (get_set_same xs k x (omega (arith, same, inside, length-set xs k x))) ∙ ap (slice_get (set xs k x)) (sym same) ∙ at)))
    (λ apart. inr (apart, sym (get_set_other xs k j x apart) ∙ at))
    (cases_eq j k)

pub get-replicate : {X : Type 0} (n k : ℕ) (x y : X) → slice_get (replicate n x) k ≡ Some y → (k < n) × (x ≡ y)
get-replicate zero k x y at = absurd (none-some y at)
get-replicate (suc n) zero x y at = (omega arith, same_Some x y at)
get-replicate (suc n) (suc k) x y at = let h = get-replicate n k x y at in (omega (arith, h.0), h.1)

drop_suc : {X : Type 0} (xs : List X) (k : ℕ) (x : X) → slice_get xs k ≡ Some x → drop k xs ≡ x ∷ drop (suc k) xs
drop_suc [] k x here = absurd (none-some x here)
drop_suc (y ∷ xs) zero x here = ap (λ v. v ∷ xs) (same_Some y x here)
drop_suc (y ∷ xs) (suc k) x here = drop_suc xs k x here

pub drop_here : {X : Type 0} (xs : List X) (k : ℕ) (x : X) → slice_get xs k ≡ Some x → drop k xs ≡ x ∷ drop (k + 1) xs
drop_here xs k x here = drop_suc xs k x here ∙ ap (λ j. x ∷ drop j xs) (sym (add-one k))
