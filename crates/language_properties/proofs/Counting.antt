-- The values that a quantifier goes through, process by process.
use Rattle.std.proofs.Common.{◌≡◌, ℕ, zero, suc, ◌+◌, ◌<◌, ◌≤◌, Bool, true, false, if◌then◌else◌, true≢false, not, List, [], ◌∷◌, length, drop, map, Ok, Err, ap, ◌∙◌, refl, sym, subst, arith, add-one}
use Rattle.std.specs.Prelude.{◌==◌, slice_set}
use Rattle.std.specs.List.{range_with_len}
use Rattle.std.proofs.lemmas.List.FromFn.{length-map-range_with_len}
use Rattle.std.proofs.Math.ListN.{drop_of_length-le}
use Rattle.base.specs.declared.status.Trap.{Trap}
use Rattle.base.specs.Operators.{truth_value, fitting}
use Rattle.language_properties.specs.Properties.{Formula}
use Rattle.language_properties.specs.Values.{SeenState, Valued, value, some_of, all_of, sum_from}
use Rattle.language_properties.specs.prover.Deciding.{decides, decided}

-- those from process `p` on are that of `p`, and those after it
from_next : {X : Type 0} (f : ℕ → X) (a n p : ℕ) → p < n
    → drop p (map f (range_with_len a n)) ≡ f (a + p) ∷ drop (suc p) (map f (range_with_len a n))
from_next f a zero p below = absurd (omega arith)
from_next f a (suc n) zero below = let same : a + 0 ≡ a = omega arith in rw same refl
from_next f a (suc n) (suc p) below =
    let same : (a + 1) + p ≡ a + suc p = omega arith in
    subst (λ k. drop p (map f (range_with_len (a + 1) n)) ≡ f k ∷ drop (suc p) (map f (range_with_len (a + 1) n))) same
    (from_next f (a + 1) n p (omega arith))

-- a value that isn't 0 decides that some isn't
passed : (none : Bool) (more : Valued) → (if none then false else true) ≡ false → (if none then more else Ok 1) ≡ more
passed true more h = refl
passed false more h = absurd (true≢false h)

found : (none : Bool) (more : Valued) → (if none then false else true) ≡ true → (if none then more else Ok 1) ≡ Ok 1
found true more h = absurd (true≢false (sym h))
found false more h = refl

-- the value for a process, where it was asked of those that quantifiers go through then
pub is_at : (s : SeenState) (inner bound : List ℕ) (number p : ℕ) (e : Formula) (v : Valued) → inner ≡ slice_set bound number p → v ≡ value s inner e
    → value s (slice_set bound number p) e ≡ v
is_at s inner bound number p e v is gives = ap (λ b. value s b e) (sym is) ∙ sym gives

module _ (f : ℕ → Valued) (n : ℕ) where
  -- the values from process `p` on
  abbrev pub from : ℕ → List Valued
  from p = drop p (map f (range_with_len 0 n))

  next_value : (p : ℕ) → p < n → from p ≡ f p ∷ from (p + 1)
  next_value p below =
      let same : 0 + p ≡ p = omega arith in
      rw add-one (subst (λ k. from p ≡ f k ∷ from (suc p)) same (from_next f 0 n p below))

  no_value : (p : ℕ) → n ≤ p → from p ≡ []
  no_value p past =
      let all : length (map f (range_with_len 0 n)) ≤ p = rw (length-map-range_with_len f 0 n) past in drop_of_length-le (map f (range_with_len 0 n)) all

  -- a value that doesn't decide is passed, and one that does ends it
  pub decided_on : (by : Bool) (p v : ℕ) → p < n → f p ≡ Ok v → decides by v ≡ false → decided by (from p) ≡ decided by (from (p + 1))
  decided_on true p v below is open_ = ap some_of (next_value p below) ∙ rw is (passed (v == 0) (some_of (from (p + 1))) open_)
  decided_on false p v below is open_ = ap all_of (next_value p below) ∙ rw (is, open_) refl

  pub decided_found : (by : Bool) (p v : ℕ) → p < n → f p ≡ Ok v → decides by v ≡ true → decided by (from p) ≡ Ok (truth_value by)
  decided_found true p v below is ends = ap some_of (next_value p below) ∙ rw is (found (v == 0) (some_of (from (p + 1))) ends)
  decided_found false p v below is ends = ap all_of (next_value p below) ∙ rw (is, ends) refl

  pub decided_trap : (by : Bool) (p : ℕ) (t : Trap) → p < n → f p ≡ Err t → decided by (from p) ≡ Err t
  decided_trap true p t below is = ap some_of (next_value p below) ∙ rw is refl
  decided_trap false p t below is = ap all_of (next_value p below) ∙ rw is refl

  pub decided_none : (by : Bool) (p : ℕ) → n ≤ p → decided by (from p) ≡ Ok (truth_value (not by))
  decided_none true p past = ap some_of (no_value p past)
  decided_none false p past = ap all_of (no_value p past)

  -- a sum
  pub sum_on : (p v total sum : ℕ) → p < n → f p ≡ Ok v → fitting (total + v) ≡ Ok sum → sum_from total (from p) ≡ sum_from sum (from (p + 1))
  sum_on p v total sum below is fits = ap (sum_from total) (next_value p below) ∙ rw (is, fits) refl

  pub sum_over : (p v total : ℕ) (t : Trap) → p < n → f p ≡ Ok v → fitting (total + v) ≡ Err t → sum_from total (from p) ≡ Err t
  sum_over p v total t below is traps = ap (sum_from total) (next_value p below) ∙ rw (is, traps) refl

  pub sum_trap : (p total : ℕ) (t : Trap) → p < n → f p ≡ Err t → sum_from total (from p) ≡ Err t
  sum_trap p total t below is = ap (sum_from total) (next_value p below) ∙ rw is refl

  pub sum_none : (p total : ℕ) → n ≤ p → sum_from total (from p) ≡ Ok total
  sum_none p total past = ap (sum_from total) (no_value p past)
