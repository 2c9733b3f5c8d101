-- Rows that are blank and filled one after another.
use Rattle.std.proofs.Common.{◌≡◌, ℕ, ◌+◌, ◌<◌, List, [], ◌∷◌, ◌++◌, length, get_or, take, map, ap, sym, subst, ◌∙◌, arith}
use Rattle.std.specs.Prelude.{All, Vec, vec_items}
use Rattle.std.specs.Global.{Global}
use Rattle.std.proofs.Math.ListN.{get_or-append}
use Rattle.std.proofs.Math.Seq.{get_or-append_seam}
use Rattle.std.proofs.lemmas.List.{length-append, map-append, take_more}

module _ {X : Type 0} (P : X → Type 0) (xs ys : List X) (x : X) (same : ys ≡ xs ++ x ∷ []) (all : All P ys) where
  pub all_last : P x
  all_last =
      subst P (ap (λ zs. get_or zs (length xs) x) same ∙ get_or-append_seam xs x [] x)
      (all (length xs) x (omega (arith, ap length same, length-append xs (x ∷ []))))

  pub all_front : All P xs
  all_front = λ k d below.
      subst P (ap (λ zs. get_or zs k d) same ∙ get_or-append xs (x ∷ []) d k below)
      (all k d (omega (arith, below, ap length same, length-append xs (x ∷ []))))

-- one more row is filled
pub filled_more : (rows : List (List ℕ)) (filled more : List (Vec ℕ Global)) (row : Vec ℕ Global) (r : ℕ) → r < length rows → more ≡ filled ++ row ∷ []
    → map (λ (v : Vec ℕ Global). vec_items v) filled ≡ take r rows → vec_items row ≡ get_or rows r []
    → map (λ (v : Vec ℕ Global). vec_items v) more ≡ take (r + 1) rows
filled_more rows filled more row r below pushed done is =
    ap (map (λ (v : Vec ℕ Global). vec_items v)) pushed ∙ map-append (λ (v : Vec ℕ Global). vec_items v) filled (row ∷ [])
    ∙ (λ i. done i ++ is i ∷ []) ∙ sym (take_more rows r [] below)
