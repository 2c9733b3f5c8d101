-- `dedup` of a list with one more element at its end: that one is compared with the last that was kept (`one_more`).
-- The idea. `dedup` goes from the front, and keeps its first element and what `kept_after` says (`first_kept`). So an element
-- at the end meets the last of these (`from_push`, by induction over the list). The loop holds the last text only as an index:
-- `nothing_added` and `one_time_more` say the same of `counts`, by their last place.
-- Read `dedup_push` first, then `one_time_more`.
use Rattle.std.proofs.Common.{◌≡◌, ◌-◌, ◌+◌, ◌&&◌, ℕ, Bool, true, false, List, String, [], ◌∷◌, ◌++◌, length, map, cond, get_or, set, nat_lt, string_eq, refl, sym, ap, ◌∙◌, arith}
use Rattle.std.proofs.lemmas.List.{get_or-map, get_or_default, length-map}
use Rattle.std.proofs.lemmas.List.Sums.{sum_by-set}
use Rattle.std.specs.Global.{Global}
use Rattle.std.specs.List.{dedup, dedup_from}
use Rattle.std.specs.String.{string_eq_equiv}
use Rattle.searches_hunt.specs.declared.tallying.counting.Counted.{Counted}
use Rattle.searches_hunt.specs.prover.Counting.{with_text}
use Rattle.searches_hunt.specs.Times.{times_of}

module _ {X : Type 0} (same : X → X → Bool) where
  -- one more element, where the last isn't the same
  abbrev with_one : List X → X → List X
  with_one xs t = cond (nat_lt 0 (length xs) && same t (get_or xs (length xs - 1) t)) xs (xs ++ t ∷ [])

  abbrev last_of : X → List X → X
  last_of k [] = k
  last_of k (x ∷ xs) = last_of x xs

  last_at : (k t : X) (xs : List X) → get_or (k ∷ xs) (length (k ∷ xs) - 1) t ≡ last_of k xs
  last_at k t [] = refl
  last_at k t (x ∷ xs) = grind (arith, last_at x t xs)

  cons_cond : (k : X) (b : Bool) (xs ys : List X) → k ∷ cond b xs ys ≡ cond b (k ∷ xs) (k ∷ ys)
  cons_cond k true xs ys = refl
  cons_cond k false xs ys = refl

  with_cons : (k t : X) (xs : List X) → with_one (k ∷ xs) t ≡ cond (same t (last_of k xs)) (k ∷ xs) (k ∷ xs ++ t ∷ [])
  with_cons k t xs =
      let some : nat_lt 0 (length (k ∷ xs)) ≡ true = grind arith in
      ap (λ b. cond (b && same t (get_or (k ∷ xs) (length (k ∷ xs) - 1) t)) (k ∷ xs) (k ∷ xs ++ t ∷ [])) some
      ∙ ap (λ l. cond (same t l) (k ∷ xs) (k ∷ xs ++ t ∷ [])) (last_at k t xs)

  cons_with : (k x t : X) (xs : List X) → k ∷ with_one (x ∷ xs) t ≡ with_one (k ∷ x ∷ xs) t
  cons_with k x t xs =
      ap (λ l. k ∷ l) (with_cons x t xs) ∙ cons_cond k (same t (last_of x xs)) (x ∷ xs) (x ∷ xs ++ t ∷ []) ∙ sym (with_cons k t (x ∷ xs))

  -- what `dedup_from` keeps after its first
  abbrev kept_after : X → List X → List X
  kept_after k [] = []
  kept_after k (x ∷ xs) = cond (same x k) (kept_after k xs) (x ∷ kept_after x xs)

  first_step : (k x : X) (xs : List X) (b : Bool) → dedup_from same k xs ≡ k ∷ kept_after k xs → dedup_from same x xs ≡ x ∷ kept_after x xs
      → cond b (dedup_from same k xs) (k ∷ dedup_from same x xs) ≡ k ∷ cond b (kept_after k xs) (x ∷ kept_after x xs)
  first_step k x xs true one other = one
  first_step k x xs false one other = ap (λ l. k ∷ l) other

  first_kept : (k : X) (xs : List X) → dedup_from same k xs ≡ k ∷ kept_after k xs
  first_kept k [] = refl
  first_kept k (x ∷ xs) = first_step k x xs (same x k) (first_kept k xs) (first_kept x xs)

  from_step : (k x t : X) (xs : List X) (b : Bool) → dedup_from same k (xs ++ t ∷ []) ≡ with_one (dedup_from same k xs) t
      → dedup_from same x (xs ++ t ∷ []) ≡ with_one (dedup_from same x xs) t
      → cond b (dedup_from same k (xs ++ t ∷ [])) (k ∷ dedup_from same x (xs ++ t ∷ []))
      ≡ with_one (cond b (dedup_from same k xs) (k ∷ dedup_from same x xs)) t
  from_step k x t xs true one other = one
  from_step k x t xs false one other =
      ap (λ l. k ∷ l) other ∙ ap (λ l. k ∷ with_one l t) (first_kept x xs) ∙ cons_with k x t (kept_after x xs)
      ∙ ap (λ l. with_one (k ∷ l) t) (sym (first_kept x xs))

  from_push : (k t : X) (xs : List X) → dedup_from same k (xs ++ t ∷ []) ≡ with_one (dedup_from same k xs) t
  from_push k t [] = refl
  from_push k t (x ∷ xs) = from_step k x t xs (same x k) (from_push k t xs) (from_push x t xs)

  dedup_push : (t : X) (xs : List X) → dedup same (xs ++ t ∷ []) ≡ with_one (dedup same xs) t
  dedup_push t [] = refl
  dedup_push t (x ∷ xs) = from_push x t xs

pub one_more : (texts : List (String Global)) (text : String Global) → dedup string_eq (texts ++ text ∷ []) ≡ with_text (dedup string_eq texts) text
one_more texts text = dedup_push string_eq text texts

-- where the last is the same, nothing is added
pub nothing_added : (counts : List Counted) (last : ℕ) (found : Counted) (text : String Global) → length counts ≡ last + 1 → found ≡ get_or counts last found
    → string_eq text found.outcome ≡ true → with_text (map (λ c. c.outcome) counts) text ≡ map (λ c. c.outcome) counts
nothing_added counts last found text long there equal =
    let size : length (map (λ c. c.outcome) counts) ≡ last + 1 = length-map counts (λ c. c.outcome) ∙ long in
    let at : get_or (map (λ c. c.outcome) counts) last text ≡ found.outcome = get_or-map (λ c. c.outcome) counts last found text (omega (arith, long)) ∙ sym (ap (λ c. c.outcome) there) in
    let here : length (map (λ c. c.outcome) counts) - 1 ≡ last = omega (arith, size) in
    grind (arith, size, at, here, equal)

counted_or_not : (b : Bool) (times : ℕ) → cond b (times + 1) 0 ≡ cond b times 0 + cond b 1 0
counted_or_not true times = refl
counted_or_not false times = refl

-- one more time of the last, where its text is the same
pub one_time_more : (counts : List Counted) (last : ℕ) (found again : Counted) (text : String Global) → length counts ≡ last + 1 → found ≡ get_or counts last found
    → again ≡ get_or counts last again → string_eq text found.outcome ≡ true → (t : String Global)
    → times_of t (set counts last record { times = again.times + 1; outcome = again.outcome }) ≡ times_of t counts + cond (string_eq t text) 1 0
one_time_more counts last found again text long there here same t =
    let f : Counted → ℕ = λ c. cond (string_eq t c.outcome) c.times 0 in
    let sums = sum_by-set f counts last record { times = again.times + 1; outcome = again.outcome } again (omega (arith, long)) in
    let one : again ≡ found = here ∙ get_or_default counts last again found (omega (arith, long)) ∙ sym there in
    let equal : string_eq text again.outcome ≡ true = ap (λ c. string_eq text c.outcome) one ∙ same in
    let alike : string_eq t again.outcome ≡ string_eq t text
    = string_eq_equiv.symm t again.outcome ∙ sym (string_eq_equiv.congr text again.outcome t equal) ∙ string_eq_equiv.symm text t in
    let now : cond (string_eq t again.outcome) (again.times + 1) 0 ≡ cond (string_eq t again.outcome) again.times 0 + cond (string_eq t text) 1 0
    = counted_or_not (string_eq t again.outcome) again.times ∙ ap (λ b. cond (string_eq t again.outcome) again.times 0 + cond b 1 0) alike in
    omega (arith, sums, ap f (sym here), now)
