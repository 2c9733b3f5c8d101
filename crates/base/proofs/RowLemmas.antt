-- What the crates above may cite.
use Rattle.std.proofs.Common.{◌≡◌, Bool, true, false, Result, Err, ℕ, ◌+◌, ◌<◌, List, [], ◌∷◌, ◌++◌, ap, ◌∙◌, sym, length, map, set, get_or, replicate, Vec, Global}
use Rattle.std.proofs.lemmas.List.{map-set, get_or-map, map-append, replicate_more}
use Rattle.base.specs.RegisterRows.{register_set}
use Rattle.base.specs.Refusing.{◌>>=◌, Unless, FailsBut}

-- one more of the same, where each is seen through `f`
pub made_more : {X Y : Type 0} (f : X → Y) (xs more : List X) (x : X) (y : Y) (k : ℕ) → more ≡ xs ++ x ∷ [] → f x ≡ y
    → map f xs ≡ replicate k y → map f more ≡ replicate (k + 1) y
made_more f xs more x y k longer same all =
    ap (map f) longer ∙ map-append f xs (x ∷ []) ∙ (λ i. all i ++ same i ∷ []) ∙ replicate_more k y

-- a row is written
pub rows_set : (rows : List (Vec ℕ Global)) (r i v : ℕ) (row row' : Vec ℕ Global) → row ≡ get_or rows r row → r < length rows
    → row'.items ≡ set row.items i v → map (λ x. x.items) (set rows r row') ≡ register_set (map (λ x. x.items) rows) r i v
rows_set rows r i v row row' here inside e =
    map-set (λ x. x.items) rows r row'
    ∙ ap (set (map (λ x. x.items) rows) r) (e ∙ ap (λ x. set x i v) (ap (λ x. x.items) here ∙ sym (get_or-map (λ x. x.items) rows r row [] inside)))

-- what fails first fails the whole
pub fails_on : {E U V : Type 0} (is_memory : E → Bool) (e : E) (m : Result U E) (f : U → Result V E)
    → FailsBut is_memory e m → FailsBut is_memory e (m >>= f)
fails_on is_memory e m f = by (is_memory e)
  where
    by : (b : Bool) → Unless b (m ≡ Err e) → Unless b ((m >>= f) ≡ Err e)
    by true h = tt
    by false h = ap (λ z. z >>= f) h

-- where no memory is taken the refusal is the defined one
pub fails_with : {E V : Type 0} (is_memory : E → Bool) (e : E) (m : Result V E) → m ≡ Err e → FailsBut is_memory e m
fails_with is_memory e m h = by (is_memory e)
  where
    by : (b : Bool) → Unless b (m ≡ Err e)
    by true = tt
    by false = h
