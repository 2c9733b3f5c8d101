-- What is counted of texts in order, once it is sorted by how often each came. That sort is stable, so of those
-- that came equally often the texts are still in order: neighbours are, and all that stand between two of them
-- came just as often.
use Rattle.std.proofs.Common.{◌≡◌, ◌<◌, ◌≤◌, ◌+◌, ◌-◌, ◌&&◌, ℕ, zero, suc, true, false, not, List, String, map, length, get_or, refl, sym, ◌∙◌, ap, subst, inl, inr, arith, string_eq, string_cmp, string_bytes, Less, Equal, Greater, nat_cmp, add-one}
use Rattle.std.proofs.Math.ListN.{get_or-map}
use Rattle.std.proofs.lemmas.Bool.{cases_lt, false≢true}
use Rattle.std.proofs.lemmas.Cmp.{eq_by_cmp_equiv, on_total, nat_cmp_total, nat_list_cmp_total, tied_itself}
use Rattle.std.proofs.lemmas.List.{length-map}
use Rattle.std.proofs.lemmas.List.Filters.{All-dedup}
use Rattle.std.proofs.lemmas.List.Kept.{IsStrictlySortedBy-dedup}
use Rattle.std.proofs.lemmas.List.Sorted.{All-permutation, IsPermutation-map, ranks_by, ties_stay_sorted}
use Rattle.std.proofs.lemmas.List.Sums.{get_or-le-sum_by}
use Rattle.std.proofs.lemmas.Map.Keys.{IsDistinct-from_sorted, IsDistinct-IsPermutation, apart_from_distinct, Less-from_sorted}
use Rattle.std.specs.Cmp.{IsTotalOrder}
use Rattle.std.specs.Cmp.Lexicographic.{slice_cmp, texts_ties}
use Rattle.std.specs.Global.{Global}
use Rattle.std.specs.List.{All, dedup, sum_by}
use Rattle.std.specs.List.Sorted.{IsPermutation, IsSorted, IsSortedBy, IsStrictlySortedBy, IsNonDecreasingBy, IsStableByKey, ties}
use Rattle.std.specs.Ordering.{eq_by_cmp, is_lt, is_eq, ordering_reverse}
use Rattle.std.specs.String.{string_cmp_total}
use Rattle.std.specs.declared.cmp.Ordering.{Ordering}
use Rattle.searches_hunt.specs.declared.tallying.counting.Counted.{Counted}
use Rattle.searches_hunt.specs.Tallies.{AreDistinct, AreCommonestFirst, AreTiesInOrder}

less_of : (o : Ordering) → is_lt (ordering_reverse o) ≡ false → is_eq o ≡ false → o ≡ Less
less_of Less h k = refl
less_of Equal h k = absurd (false≢true (sym k))
less_of Greater h k = absurd (false≢true (sym h))

module _ {X : Type 0} {R : X → X → Ordering} (total : IsTotalOrder R) (number : X → ℕ) (xs : List X) (d : X)
    (rising : (i j : ℕ) → i ≤ j → j < length xs → number (get_or xs i d) ≤ number (get_or xs j d))
    (next : (k : ℕ) → suc k < length xs → number (get_or xs k d) ≡ number (get_or xs (suc k) d) → R (get_or xs k d) (get_or xs (suc k) d) ≡ Less) where
  ties_below : (i j : ℕ) → i < j → j < length xs → number (get_or xs i d) ≡ number (get_or xs j d) → R (get_or xs i d) (get_or xs j d) ≡ Less
  ties_below i zero p q e = absurd (omega arith)
  ties_below i (suc k) p q e =
      let up = rising i k (omega (arith, p)) (omega (arith, q)) in
      let on = rising k (suc k) (omega arith) q in
      let same : number (get_or xs k d) ≡ number (get_or xs (suc k) d) = omega (arith, up, on, e) in
      let step : R (get_or xs k d) (get_or xs (suc k) d) ≡ Less = next k q same in
      elim (cases_lt i k) [
        | inl below ↦ total.trans _ _ _ (ties_below i k below (omega (arith, q)) (omega (arith, e, same))) step
        | inr above ↦ subst (λ m. R (get_or xs m d) (get_or xs (suc k) d) ≡ Less) (omega (arith, above, p)) step
      ]

-- what the sort goes by: it falls as the times rise
abbrev pub rareness : Counted → ℕ
rareness c = 4294967295 - c.times

module _ (texts : List (String Global)) (counts sorted : List Counted) (up : IsSorted string_cmp texts) (once : map (λ c. c.outcome) counts ≡ dedup string_eq texts)
    (moved : IsPermutation counts sorted) where
  -- what holds of each text holds of each that is counted
  pub all_counted : (P : String Global → Type 0) → All P texts → All (λ c. P c.outcome) sorted
  all_counted P each =
      let kept : All P (map (λ c. c.outcome) counts) = subst (All P) (sym once) (All-dedup string_eq P texts each) in
      All-permutation (λ c. P c.outcome) counts sorted moved
      (λ k d p. subst P (get_or-map (λ c. c.outcome) counts k d) (kept k d.outcome (omega (arith, p, length-map counts (λ c. c.outcome)))))

  texts_rise : IsStrictlySortedBy string_cmp (map (λ c. c.outcome) counts)
  texts_rise = subst (IsStrictlySortedBy string_cmp) (sym once) (IsStrictlySortedBy-dedup string_cmp_total (λ x y. texts_ties (string_bytes x) (string_bytes y)) texts up)

  texts_differ : (i j : ℕ) (d : Counted) → i < j → j < length sorted → eq_by_cmp string_cmp (get_or sorted i d).outcome (get_or sorted j d).outcome ≡ false
  texts_differ i j d p q =
      let apart = IsDistinct-IsPermutation (eq_by_cmp string_cmp) (λ x y. (eq_by_cmp_equiv string_cmp_total).symm x y) (map (λ c. c.outcome) counts) (map (λ c. c.outcome) sorted)
      (IsPermutation-map (λ c. c.outcome) counts sorted moved) (IsDistinct-from_sorted string_cmp (map (λ c. c.outcome) counts) texts_rise) in
      let there = apart_from_distinct (eq_by_cmp string_cmp) (map (λ c. c.outcome) sorted) i j d.outcome apart p (omega (arith, q, length-map sorted (λ c. c.outcome))) in
      rw (← get_or-map (λ c. c.outcome) sorted i d, ← get_or-map (λ c. c.outcome) sorted j d) there

  pub distinct : AreDistinct sorted
  distinct i j d p q same =
      let equal : string_cmp (get_or sorted i d).outcome (get_or sorted j d).outcome ≡ Equal
      = ap (λ b. slice_cmp nat_cmp (string_bytes (get_or sorted i d).outcome) b) (sym same) ∙ tied_itself nat_list_cmp_total (string_bytes (get_or sorted i d).outcome) in
      false≢true (sym (texts_differ i j d p q) ∙ ap is_eq equal)

  in_order : IsSortedBy (λ c d. is_lt (string_cmp c.outcome d.outcome)) counts
  in_order k d low q =
      let less = Less-from_sorted string_cmp (map (λ c. c.outcome) counts) k (k + 1) d.outcome texts_rise (omega arith) (omega (arith, q, length-map counts (λ c. c.outcome))) in
      let here : string_cmp (get_or counts k d).outcome (get_or counts (k + 1) d).outcome ≡ Less = rw (← get_or-map (λ c. c.outcome) counts k d, ← get_or-map (λ c. c.outcome) counts (k + 1) d) less in
      ap is_lt (string_cmp_total.antisymm (get_or counts (k + 1) d).outcome (get_or counts k d).outcome ∙ ap ordering_reverse here)

  module _ (few : sum_by (λ c. c.times) sorted < 4294967296) (rising : IsNonDecreasingBy rareness sorted) (stable : IsStableByKey rareness nat_cmp counts sorted) where
    pub commonest_first : AreCommonestFirst sorted
    commonest_first i j d p q =
        let first = get_or-le-sum_by (λ c. c.times) sorted i d (omega (arith, p, q)) in
        omega (arith, rising i j d (omega (arith, p)) q, first, get_or-le-sum_by (λ c. c.times) sorted j d q, few)

    next : (d : Counted) (k : ℕ) → suc k < length sorted → rareness (get_or sorted k d) ≡ rareness (get_or sorted (suc k) d)
        → string_cmp (get_or sorted k d).outcome (get_or sorted (suc k) d).outcome ≡ Less
    next d k q same =
        let x = get_or sorted k d in
        let y = get_or sorted (suc k) d in
        let one : nat_cmp (rareness x) (rareness y) ≡ Equal = ap (nat_cmp (rareness x)) (sym same) ∙ tied_itself nat_cmp_total (rareness x) in
        let other : nat_cmp (rareness y) (rareness x) ≡ Equal = ap (nat_cmp (rareness y)) same ∙ tied_itself nat_cmp_total (rareness y) in
        let tie : ties (λ c e. is_lt (nat_cmp (rareness c) (rareness e))) x y ≡ true = λ i. not (is_lt (one i)) && not (is_lt (other i)) in
        let kept = ties_stay_sorted (λ c e. is_lt (string_cmp c.outcome e.outcome)) (λ c e. is_lt (nat_cmp (rareness c) (rareness e))) (ranks_by string_cmp_total (λ c. c.outcome))
        (ranks_by nat_cmp_total rareness) counts sorted in_order stable k d (omega (arith, q))
        (subst (λ n. ties (λ c e. is_lt (nat_cmp (rareness c) (rareness e))) x (get_or sorted n d) ≡ true) (sym (add-one k)) tie) in
        less_of (string_cmp x.outcome y.outcome)
        (sym (ap is_lt (string_cmp_total.antisymm y.outcome x.outcome)) ∙ subst (λ n. is_lt (string_cmp (get_or sorted n d).outcome x.outcome) ≡ false) (add-one k) kept)
        (texts_differ k (suc k) d (omega arith) q)

    pub ties_in_order : AreTiesInOrder sorted
    ties_in_order i j d p q same =
        ties_below {R = λ c e. string_cmp c.outcome e.outcome} (on_total (λ c. c.outcome) string_cmp_total) rareness sorted d (λ a b. rising a b d) (next d) i j p q (ap (λ n. 4294967295 - n) same)
