-- Counts of what passes a test, and the item with the greatest number.
use Rattle.std.proofs.Common.{◌≡◌, ℕ, suc, zero, ◌+◌, ◌<◌, ◌≤◌, Bool, true, false, cond, List, [], ◌∷◌, length, get_or, map, refl, ap, sym, ◌∙◌, arith, ⊎_elim}
use Rattle.std.specs.Prelude.{count_by, Contains}
use Rattle.std.specs.List.{AllByRecursion}
use Rattle.std.proofs.lemmas.Bool.{cases_lt}
use Rattle.std.proofs.lemmas.List.Sums.{sum_by-cons}

pub each_weaker : {X : Type 0} (P Q : X → Type 0) (xs : List X) → ((x : X) → P x → Q x) → AllByRecursion P xs → AllByRecursion Q xs
each_weaker P Q [] gives h = tt
each_weaker P Q (x ∷ xs) gives h = (gives x h.0, each_weaker P Q xs gives h.1)

pub count-cons : {X : Type 0} (p : X → Bool) (x : X) (xs : List X) → count_by p (x ∷ xs) ≡ cond (p x) 1 0 + count_by p xs
count-cons p x xs = sum_by-cons (λ y. cond (p y) 1 0) x xs

one_le : (a b : Bool) → (a ≡ true → b ≡ true) → cond a 1 0 ≤ cond b 1 0
one_le true true h = omega arith
one_le true false h = let bad : false ≡ true = h refl in cc
one_le false b h = omega arith

-- what passes one test passes the other: the other counts no less
pub count_le : {X : Type 0} (p q : X → Bool) (xs : List X) → AllByRecursion (λ x. p x ≡ true → q x ≡ true) xs → count_by p xs ≤ count_by q xs
count_le p q [] h = omega arith
count_le p q (x ∷ xs) h = omega (arith, count-cons p x xs, count-cons q x xs, one_le (p x) (q x) h.0, count_le p q xs h.1)

-- and more, where an item passes the other alone
pub count_lt : {X : Type 0} (p q : X → Bool) (xs : List X) (k : ℕ) (d : X) → AllByRecursion (λ x. p x ≡ true → q x ≡ true) xs
    → k < length xs → p (get_or xs k d) ≡ false → q (get_or xs k d) ≡ true → count_by p xs < count_by q xs
count_lt p q [] k d h inside fails passes = absurd (omega arith)
count_lt p q (x ∷ xs) zero d h inside fails passes =
    let none : cond {A = ℕ} (p x) 1 0 ≡ 0 = rw fails refl in
    let one : cond {A = ℕ} (q x) 1 0 ≡ 1 = rw passes refl in
    omega (arith, count-cons p x xs, count-cons q x xs, count_le p q xs h.1, none, one)
count_lt p q (x ∷ xs) (suc k) d h inside fails passes =
    omega (arith, count-cons p x xs, count-cons q x xs, one_le (p x) (q x) h.0, count_lt p q xs k d h.1 (omega arith) fails passes)

pub record Most {X : Type 0} (f : X → ℕ) (xs : List X) : Type 0 where
  pub item : X
  pub member : Contains xs item
  pub over : AllByRecursion (λ x. f x ≤ f item) xs

-- a list that has items has one with the greatest number
pub most_of : {X : Type 0} (f : X → ℕ) (x : X) (xs : List X) → Most f (x ∷ xs)
most_of f x [] = record { item = x; member = (0, omega arith, refl); over = (omega arith, tt) }
most_of f x (y ∷ ys) =
    let rest : Most f (y ∷ ys) = most_of f y ys in
    ⊎_elim
    (λ below. record {
      item = rest.item;
      member = (suc rest.member.0, omega (arith, rest.member.1), rest.member.2);
      over = (omega arith, rest.over);
    })
    (λ above. record {
      item = x;
      member = (0, omega arith, refl);
      over = (omega arith, each_weaker (λ z. f z ≤ f rest.item) (λ z. f z ≤ f x) (y ∷ ys) (λ z le. omega arith) rest.over);
    })
    (cases_lt (f x) (f rest.item))

-- two lists of one length give the same list where what is made of the items at the same places is the same
pub map_same : {X Y Z : Type 0} (f : X → Z) (g : Y → Z) (xs : List X) (ys : List Y) (d : X) (e : Y) → length xs ≡ length ys
    → ((k : ℕ) → k < length xs → f (get_or xs k d) ≡ g (get_or ys k e)) → map f xs ≡ map g ys
map_same f g [] [] d e len same = refl
map_same f g [] (y ∷ ys) d e len same = let bad : 0 ≡ suc (length ys) = len in absurd (omega arith)
map_same f g (x ∷ xs) [] d e len same = let bad : suc (length xs) ≡ 0 = len in absurd (omega arith)
map_same f g (x ∷ xs) (y ∷ ys) d e len same =
    let len' : suc (length xs) ≡ suc (length ys) = len in
    let here : f x ≡ g y = same 0 (omega arith) in
    let rest : map f xs ≡ map g ys = map_same f g xs ys d e (omega arith) (λ k in_k. same (suc k) (omega arith)) in
    cc

count-map : {X : Type 0} (p : X → Bool) (xs : List X) → count_by p xs ≡ count_by (λ b. b) (map p xs)
count-map p [] = refl
count-map p (x ∷ xs) = count-cons p x xs ∙ ap (λ n. cond (p x) 1 0 + n) (count-map p xs) ∙ sym (count-cons (λ b. b) (p x) (map p xs))

-- and count the same where they pass two tests at the same places
pub count_same : {X Y : Type 0} (f : X → Bool) (g : Y → Bool) (xs : List X) (ys : List Y) (d : X) (e : Y) → length xs ≡ length ys
    → ((k : ℕ) → k < length xs → f (get_or xs k d) ≡ g (get_or ys k e)) → count_by f xs ≡ count_by g ys
count_same f g xs ys d e len same =
    count-map f xs ∙ ap (count_by (λ b. b)) (map_same f g xs ys d e len same) ∙ sym (count-map g ys)
