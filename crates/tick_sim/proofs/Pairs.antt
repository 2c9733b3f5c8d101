-- Two lists side by side.
use Rattle.std.proofs.Common.{◌≡◌, ℕ, zero, suc, ⊎_elim, List, [], ◌∷◌, length, set, map, refl, ap, sym, ◌∙◌, subst, arith, Some, None}
use Rattle.std.specs.Prelude.{◌≢◌, slice_get}
use Rattle.std.proofs.lemmas.List.{length-set}
use Rattle.std.proofs.lemmas.Option.{same_Some, none-some}
use Rattle.code_machine.proofs.Offered.{get-set}

-- as many in each list, and those at the same place are related
pub record Pairs {X Y : Type 0} (R : ℕ → X → Y → Type 0) (xs : List X) (ys : List Y) : Type 0 where
  pub many : length xs ≡ length ys
  pub each : (q : ℕ) (x : X) (y : Y) → slice_get xs q ≡ Some x → slice_get ys q ≡ Some y → R q x y

-- what stands at a place after a write
pub get_set_same : {X : Type 0} (xs : List X) (k : ℕ) (x y : X) → slice_get xs k ≡ Some y
    → slice_get (set xs k x) k ≡ Some x
get_set_same [] k x y at = absurd (none-some y at)
get_set_same (z ∷ xs) zero x y at = refl
get_set_same (z ∷ xs) (suc k) x y at = get_set_same xs k x y at

-- where the second list has an element the first has another
pub first_at : {X Y : Type 0} (xs : List X) (ys : List Y) (k : ℕ) (y : Y) → length xs ≡ length ys
    → slice_get ys k ≡ Some y → (x : X) × (slice_get xs k ≡ Some x)
first_at [] [] k y same at = absurd (none-some y at)
first_at [] (y' ∷ ys) k y same at = absurd (omega arith)
first_at (x ∷ xs) [] k y same at = absurd (none-some y at)
first_at (x ∷ xs) (y' ∷ ys) zero y same at = (x, refl)
first_at (x ∷ xs) (y' ∷ ys) (suc k) y same at = first_at xs ys k y (omega arith) at

pub first_none : {X Y : Type 0} (xs : List X) (ys : List Y) (k : ℕ) → length xs ≡ length ys → slice_get ys k ≡ None
    → slice_get xs k ≡ None
first_none [] ys k same at = refl
first_none (x ∷ xs) [] k same at = absurd (omega arith)
first_none (x ∷ xs) (y ∷ ys) zero same at = absurd (none-some y (sym at))
first_none (x ∷ xs) (y ∷ ys) (suc k) same at = first_none xs ys k (omega arith) at

module _ {X Y : Type 0} (R R' : ℕ → X → Y → Type 0) (p : ℕ) (xs : List X) (ys : List Y)
    (keep : (q : ℕ) (x : X) (y : Y) → q ≢ p → R q x y → R' q x y) (pairs : Pairs R xs ys) where
  -- a write at one place of both
  pub both_written : (x' : X) (y' : Y) → R' p x' y' → Pairs R' (set xs p x') (set ys p y')
  both_written x' y' related = record {
    many = length-set xs p x' ∙ pairs.many ∙ sym (length-set ys p y');
    each = λ q x y at_x at_y. ⊎_elim
        (λ (here, same_x). ⊎_elim
        (λ (here', same_y). subst (λ q. R' q x y) (sym here)
        (subst (λ x. R' p x y) same_x (subst (λ y. R' p x' y) same_y related)))
        (λ (other, there). absurd (other here)) (get-set ys p q y' y at_y))
        (λ (other, there). ⊎_elim (λ (here', same_y). absurd (other here'))
        (λ (other', there'). keep q x y other (pairs.each q x y there there')) (get-set ys p q y' y at_y))
        (get-set xs p q x' x at_x);
  }

  -- a write at one place of the second
  pub second_written : (x' : X) (y' : Y) → slice_get xs p ≡ Some x' → R' p x' y' → Pairs R' xs (set ys p y')
  second_written x' y' at related = record {
    many = pairs.many ∙ sym (length-set ys p y');
    each = λ q x y at_x at_y. ⊎_elim
        (λ (here, same_y).
        let same_x : x' ≡ x = same_Some x' x (sym at ∙ ap (slice_get xs) (sym here) ∙ at_x) in
        subst (λ q. R' q x y) (sym here) (subst (λ x. R' p x y) same_x (subst (λ y. R' p x' y) same_y related)))
        (λ (other, there). keep q x y other (pairs.each q x y at_x there)) (get-set ys p q y' y at_y);
  }

-- what is the same of each pair is the same of the lists
pub map_same : {X Y Z : Type 0} (f : X → Z) (g : Y → Z) (xs : List X) (ys : List Y) → Pairs (λ q x y. f x ≡ g y) xs ys
    → map f xs ≡ map g ys
map_same f g [] [] pairs = refl
map_same f g [] (y ∷ ys) pairs = let many = pairs.many in absurd (omega arith)
map_same f g (x ∷ xs) [] pairs = let many = pairs.many in absurd (omega arith)
map_same f g (x ∷ xs) (y ∷ ys) pairs =
    let later =
    map_same f g xs ys (record {
      many = (let many = pairs.many in omega arith);
      each = λ q x' y' at_x at_y. pairs.each
          (suc q) x' y' at_x at_y;
    }) in
    λ i. pairs.each 0 x y refl refl i ∷ later i
