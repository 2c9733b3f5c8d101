-- Labels are in an order exactly where no two of those that are present dominate equally many of them.
--
-- The idea. Of numbers that are all different at most `s` are below `s` (`count_under`). Take a label that
-- dominates `s` of the labels, where each that dominates more is known to dominate all that dominate fewer
-- (`ranked`, by the number that are left above). None of those is dominated by it, and it does not dominate
-- itself, so it dominates only labels that dominate fewer than `s`. There are at most `s` of these, so it
-- dominates each of them. Hence one label dominates another exactly where it dominates more (`by_rank`),
-- which orders the processes (`ordered_from_apart`). The other way (`apart_from_ordered`) these counts are
-- numbers of an order wherever there is one.
use Rattle.std.proofs.Common.{◌≡◌, ◌≢◌, ℕ, zero, suc, ◌+◌, ◌<◌, ◌≤◌, Bool, true, cond, eqb, ltb, Option, None, Some, List, [], ◌∷◌, length, get_or, map, take, refl, sym, ap, ◌∙◌, arith, ⊎_elim}
use Rattle.std.specs.Prelude.{All, count_by, slice_index}
use Rattle.std.specs.List.{AllByRecursion}
use Rattle.std.proofs.lemmas.Bool.{both_ways, cases_Bool, cases_eq, cases_lt, eqb-true, eq-eqb, le-ltb, lt-ltb, ne_eqb}
use Rattle.std.proofs.lemmas.List.{get_or-map, length-map}
use Rattle.std.proofs.lemmas.List.Elements.{All-from_get_or, recursion_from_All}
use Rattle.std.proofs.lemmas.List.Sums.{count_by-le-length}
use Rattle.label_core.specs.Labels.{dominates, dominated}
use Rattle.label_core.proofs.Offered.{dominates_self, dominates_one_way}
use Rattle.word_core.specs.Stamps.{Labels, label_at, is_present, present}
use Rattle.word_core.specs.Order.{IsOrdered, above, labels_below}
use Rattle.word_core.specs.prover.Numbers.{AreApart, number_among, numbers_of}
use Rattle.word_core.proofs.Counting.{count-cons, count_lt, count_same}
use Rattle.word_core.proofs.Gathering.{below_present, present_at}
use Rattle.word_core.proofs.Ranks.{number_at, ordered_pairs, pairs_ordered}

count_none : (s : ℕ) (numbers : List ℕ) → ((k : ℕ) → k < length numbers → s ≢ slice_index numbers k) → count_by (eqb s) numbers ≡ 0
count_none s [] none = refl
count_none s (x ∷ xs) none =
    count-cons (eqb s) x xs ∙ ap (λ (t : Bool). cond t 1 0 + count_by (eqb s) xs) (ne_eqb s x (none 0 (omega arith)))
    ∙ omega (arith, count_none s xs (λ k in_k. none (suc k) (omega arith)))

count_one : (s : ℕ) (numbers : List ℕ) → AreApart numbers → count_by (eqb s) numbers ≤ 1
count_one s [] apart = omega arith
count_one s (x ∷ xs) apart =
    ⊎_elim
    (λ here.
    let same : s ≡ x = eqb-true s x here in
    let none : count_by (eqb s) xs ≡ 0 = count_none s xs (λ k in_k equal. apart 0 (suc k) (omega arith) (omega arith) (sym same ∙ equal)) in
    let one : cond {A = ℕ} (eqb s x) 1 0 ≡ 1 = rw here refl in
    omega (arith, count-cons (eqb s) x xs, none, one))
    (λ other.
    let nothing : cond {A = ℕ} (eqb s x) 1 0 ≡ 0 = rw other refl in
    omega (arith, count-cons (eqb s) x xs, nothing, count_one s xs (λ i j lt in_j. apart (suc i) (suc j) (omega arith) (omega arith))))
    (cases_Bool (eqb s x))

-- what is below s + 1 is below s, or s
one_more : (s x : ℕ) → cond {A = ℕ} (ltb x (suc s)) 1 0 ≤ cond {A = ℕ} (ltb x s) 1 0 + cond {A = ℕ} (eqb s x) 1 0
one_more s x =
    ⊎_elim
    (λ below. let one : cond {A = ℕ} (ltb x s) 1 0 ≡ 1 = rw (lt-ltb x s below) refl in let first : cond {A = ℕ} (ltb x (suc s)) 1 0 ≡ 1 = rw (lt-ltb x (suc s) (omega arith)) refl in omega (arith, one, first))
    (λ from. ⊎_elim
    (λ same. let one : cond {A = ℕ} (eqb s x) 1 0 ≡ 1 = rw (eq-eqb s x same) refl in let first : cond {A = ℕ} (ltb x (suc s)) 1 0 ≡ 1 = rw (lt-ltb x (suc s) (omega (arith, same))) refl in omega (arith, one, first))
    (λ other. let first : cond {A = ℕ} (ltb x (suc s)) 1 0 ≡ 0 = rw (le-ltb x (suc s) (omega (arith, from, other))) refl in omega (arith, first))
    (cases_eq s x))
    (cases_lt x s)

count_more : (s : ℕ) (numbers : List ℕ) → count_by (λ x. ltb x (suc s)) numbers ≤ count_by (λ x. ltb x s) numbers + count_by (eqb s) numbers
count_more s [] = omega arith
count_more s (x ∷ xs) =
    omega (arith, count-cons (λ y. ltb y (suc s)) x xs, count-cons (λ y. ltb y s) x xs, count-cons (eqb s) x xs, one_more s x, count_more s xs)

count_below_zero : (numbers : List ℕ) → count_by (λ x. ltb x 0) numbers ≡ 0
count_below_zero [] = refl
count_below_zero (x ∷ xs) =
    count-cons (λ y. ltb y 0) x xs ∙ ap (λ (t : Bool). cond t 1 0 + count_by (λ y. ltb y 0) xs) (le-ltb x 0 (omega arith)) ∙ omega (arith, count_below_zero xs)

-- of numbers that are all different at most `s` are below `s`
count_under : (s : ℕ) (numbers : List ℕ) → AreApart numbers → count_by (λ x. ltb x s) numbers ≤ s
count_under zero numbers apart = omega (arith, count_below_zero numbers)
count_under (suc s) numbers apart = omega (arith, count_more s numbers, count_one s numbers apart, count_under s numbers apart)

-- how many of the labels each one dominates
abbrev ranks : List (List ℕ) → List ℕ
ranks labels = map (dominated labels) labels

rank_at : (labels : List (List ℕ)) (i : ℕ) → i < length labels → slice_index (ranks labels) i ≡ dominated labels (get_or labels i [])
rank_at labels i inside = get_or-map (dominated labels) labels i [] 0 inside

pub ranks_small : (labels : List (List ℕ)) → length labels ≤ 6 → All (λ rank. rank < 8) (map (dominated labels) labels)
ranks_small labels few = All-from_get_or (λ rank. rank < 8) (ranks labels) 0 (λ k in_k.
    let inside : k < length labels = omega (arith, in_k, length-map labels (dominated labels)) in
    omega (arith, rank_at labels k inside, count_by-le-length (dominates (get_or labels k [])) labels, few))

-- two labels that dominate equally many are one and the same
one_place : (labels : List (List ℕ)) → AreApart (ranks labels) → (i j : ℕ) → i < length labels → j < length labels
    → dominated labels (get_or labels i []) ≡ dominated labels (get_or labels j []) → i ≡ j
one_place labels apart i j in_i in_j same =
    let long : length (ranks labels) ≡ length labels = length-map labels (dominated labels) in
    ⊎_elim
    (λ lt. absurd (apart i j lt (omega (arith, long, in_j)) (rank_at labels i in_i ∙ same ∙ sym (rank_at labels j in_j))))
    (λ le. ⊎_elim
    (λ lt. absurd (apart j i lt (omega (arith, long, in_i)) (rank_at labels j in_j ∙ sym same ∙ sym (rank_at labels i in_i))))
    (λ ge. omega (arith, le, ge))
    (cases_lt j i))
    (cases_lt i j)

-- a label dominates each that dominates fewer
ranked : (m : ℕ) (labels : List (List ℕ)) → AreApart (ranks labels) → (i j : ℕ) → i < length labels → j < length labels
    → length labels < dominated labels (get_or labels i []) + m
    → dominated labels (get_or labels j []) < dominated labels (get_or labels i [])
    → dominates (get_or labels i []) (get_or labels j []) ≡ true
ranked zero labels apart i j in_i in_j left lt =
    absurd (omega (arith, left, count_by-le-length (dominates (get_or labels i [])) labels))
ranked (suc m) labels apart i j in_i in_j left lt =
    let label : List ℕ = get_or labels i [] in
    let rank : ℕ = dominated labels label in
    let fewer : List ℕ → Bool = λ other. ltb (dominated labels other) rank in
    let each : AllByRecursion (λ other. dominates label other ≡ true → fewer other ≡ true) labels =
    recursion_from_All (λ other. dominates label other ≡ true → fewer other ≡ true) labels (All-from_get_or (λ other. dominates label other ≡ true → fewer other ≡ true) labels [] (λ k in_k over.
    let other : List ℕ = get_or labels k [] in
    ⊎_elim
    (λ below. lt-ltb (dominated labels other) rank below)
    (λ from. ⊎_elim
    (λ same.
    let here : i ≡ k = one_place labels apart i k in_i in_k same in
    absurd (both_ways (dominates label other) (ap (λ n. dominates label (get_or labels n [])) (sym here) ∙ dominates_self label) over))
    (λ differ.
    let back : dominates other label ≡ true = ranked m labels apart k i in_k in_i (omega (arith, left, from, differ)) (omega (arith, from, differ)) in
    absurd (both_ways (dominates label other) (dominates_one_way other label back) over))
    (cases_eq rank (dominated labels other)))
    (cases_lt (dominated labels other) rank))) in
    let counted : count_by fewer labels ≡ count_by (λ x. ltb x rank) (ranks labels) =
    count_same fewer (λ x. ltb x rank) labels (ranks labels) [] 0 (sym (length-map labels (dominated labels)))
    (λ k in_k. ap (λ r. ltb r rank) (sym (rank_at labels k in_k))) in
    ⊎_elim
    (λ over. over)
    (λ not_over. absurd (omega (
      arith,
      count_lt (dominates label) fewer labels j [] each in_j not_over (lt-ltb _ _ lt),
      counted,
      count_under rank (ranks labels) apart,
    )))
    (cases_Bool (dominates label (get_or labels j [])))

by_rank : (labels : List (List ℕ)) → AreApart (ranks labels) → (i j : ℕ) → i < length labels → j < length labels
    → dominates (get_or labels i []) (get_or labels j []) ≡ ltb (dominated labels (get_or labels j [])) (dominated labels (get_or labels i []))
by_rank labels apart i j in_i in_j =
    let a : List ℕ = get_or labels i [] in
    let b : List ℕ = get_or labels j [] in
    ⊎_elim
    (λ lt. ranked (suc (length labels)) labels apart i j in_i in_j (omega arith) lt ∙ sym (lt-ltb _ _ lt))
    (λ le. ⊎_elim
    (λ same. ap (λ n. dominates a (get_or labels n [])) (sym (one_place labels apart i j in_i in_j same)) ∙ dominates_self a ∙ sym (le-ltb _ _ le))
    (λ differ. dominates_one_way b a (ranked (suc (length labels)) labels apart j i in_j in_i (omega arith) (omega (arith, le, differ))) ∙ sym (le-ltb _ _ le))
    (cases_eq (dominated labels a) (dominated labels b)))
    (cases_lt (dominated labels b) (dominated labels a))

-- fewer are present before a process than before a later one, if it is present
place_lt : (labels : Labels) (i j : ℕ) → i < j → is_present (label_at labels i) ≡ true → length (present (take i labels)) < length (present (take j labels))
place_lt [] i j lt here = cc
place_lt (None ∷ labels) zero j lt here = cc
place_lt (None ∷ labels) (suc i) zero lt here = absurd (omega arith)
place_lt (None ∷ labels) (suc i) (suc j) lt here = place_lt labels i j (omega arith) here
place_lt (Some label ∷ labels) i zero lt here = absurd (omega arith)
place_lt (Some label ∷ labels) zero (suc j) lt here = omega arith
place_lt (Some label ∷ labels) (suc i) (suc j) lt here = omega (arith, place_lt labels i j (omega arith) here)

-- the process whose label stands at a place among those that are present
record Owner (labels : Labels) (place : ℕ) : Type 0 where
  process : ℕ
  inside : process < length labels
  at : length (present (take process labels)) ≡ place
  has : label_at labels process ≡ Some (get_or (present labels) place [])

owner_of : (labels : Labels) (place : ℕ) → place < length (present labels) → Owner labels place
owner_of [] place inside = absurd (omega arith)
owner_of (None ∷ labels) place inside =
    let rest : Owner labels place = owner_of labels place inside in
    record { process = suc rest.process; inside = omega (arith, rest.inside); at = rest.at; has = rest.has }
owner_of (Some label ∷ labels) zero inside = record { process = 0; inside = omega arith; at = refl; has = refl }
owner_of (Some label ∷ labels) (suc place) inside =
    let rest : Owner labels place = owner_of labels place (omega (arith, inside)) in
    record { process = suc rest.process; inside = omega (arith, rest.inside); at = omega (arith, rest.at); has = rest.has }

-- absent ones are below those that are present as much for each of them
same_order : (a b c d k l : ℕ) → a + k ≡ l + c → b + k ≡ l + d → ltb d c ≡ ltb (1 + b) (1 + a)
same_order a b c d k l is_a is_b =
    ⊎_elim
    (λ lt. lt-ltb d c lt ∙ sym (lt-ltb (1 + b) (1 + a) (omega (arith, lt, is_a, is_b))))
    (λ le. le-ltb d c le ∙ sym (le-ltb (1 + b) (1 + a) (omega (arith, le, is_a, is_b))))
    (cases_lt d c)

-- two processes of labels whose counts are all different
pair : (labels : Labels) → AreApart (ranks (present labels)) → (i j : ℕ) → i < length labels → j < length labels → (x y : Option (List ℕ))
    → label_at labels i ≡ x → label_at labels j ≡ y
    → (above x y ≡ ltb (number_among labels y) (number_among labels x)) × (i ≢ j → number_among labels x ≡ number_among labels y → number_among labels x ≡ 0)
pair labels apart i j in_i in_j None y is_x is_y = (sym (le-ltb (number_among labels y) 0 (omega arith)), λ other same. refl)
pair labels apart i j in_i in_j (Some a) None is_x is_y =
    (sym (lt-ltb 0 (1 + labels_below labels (Some a)) (omega arith)), λ other same. absurd (omega (arith, same)))
pair labels apart i j in_i in_j (Some a) (Some b) is_x is_y =
    let all : List (List ℕ) = present labels in
    let place_i : ℕ = length (present (take i labels)) in
    let place_j : ℕ = length (present (take j labels)) in
    let at_i = present_at labels i a in_i is_x in
    let at_j = present_at labels j b in_j is_y in
    let counts : dominates a b ≡ ltb (dominated all b) (dominated all a) =
    ap (λ x. dominates x b) (sym at_i.1) ∙ ap (dominates (get_or all place_i [])) (sym at_j.1)
    ∙ by_rank all apart place_i place_j at_i.0 at_j.0
    ∙ ap (λ x. ltb (dominated all x) (dominated all (get_or all place_i []))) at_j.1
    ∙ ap (λ x. ltb (dominated all b) (dominated all x)) at_i.1 in (
      counts ∙ same_order (labels_below labels (Some a)) (labels_below labels (Some b)) (dominated all a) (dominated all b) (length all) (length labels)
          (below_present labels a) (below_present labels b),
      λ other same.
          let equal : dominated all a ≡ dominated all b = omega (arith, same, below_present labels a, below_present labels b) in
          let place : place_i ≡ place_j = one_place all apart place_i place_j at_i.0 at_j.0 (ap (dominated all) at_i.1 ∙ equal ∙ sym (ap (dominated all) at_j.1)) in
          ⊎_elim
          (λ lt. absurd (omega (arith, place, place_lt labels i j lt (ap is_present is_x))))
          (λ le. absurd (omega (arith, place, place_lt labels j i (omega (arith, le, other)) (ap is_present is_y))))
          (cases_lt i j),
    )

pub ordered_from_apart : (labels : Labels) → AreApart (map (dominated (present labels)) (present labels)) → IsOrdered labels
ordered_from_apart labels apart = pairs_ordered labels (λ i j in_i in_j.
    let both = pair labels apart i j in_i in_j (label_at labels i) (label_at labels j) refl refl in
    let n_i = number_at labels i in_i in
    let n_j = number_at labels j in_j in
    record {
      over = both.0 ∙ ap (λ n. ltb n (number_among labels (label_at labels i))) (sym n_j) ∙ ap (ltb (slice_index (numbers_of labels) j)) (sym n_i);
      apart = λ other same. n_i ∙ both.1 other (sym n_i ∙ same ∙ n_j);
    })

pub apart_from_ordered : (labels : Labels) → IsOrdered labels → AreApart (map (dominated (present labels)) (present labels))
apart_from_ordered labels ordered p q lt in_q same =
    let all : List (List ℕ) = present labels in
    let long : length (ranks all) ≡ length all = length-map all (dominated all) in
    let i : Owner labels p = owner_of labels p (omega (arith, lt, in_q, long)) in
    let j : Owner labels q = owner_of labels q (omega (arith, in_q, long)) in
    let n_i : slice_index (numbers_of labels) i.process ≡ 1 + labels_below labels (Some (get_or all p [])) = number_at labels i.process i.inside ∙ ap (number_among labels) i.has in
    let n_j : slice_index (numbers_of labels) j.process ≡ 1 + labels_below labels (Some (get_or all q [])) = number_at labels j.process j.inside ∙ ap (number_among labels) j.has in
    let equal : dominated all (get_or all p []) ≡ dominated all (get_or all q []) =
    sym (rank_at all p (omega (arith, lt, in_q, long))) ∙ same ∙ rank_at all q (omega (arith, in_q, long)) in
    let numbers : slice_index (numbers_of labels) i.process ≡ slice_index (numbers_of labels) j.process =
    omega (arith, n_i, n_j, equal, below_present labels (get_or all p []), below_present labels (get_or all q [])) in
    let other : i.process ≢ j.process = λ one. omega (arith, lt, sym i.at ∙ ap (λ k. length (present (take k labels))) one ∙ j.at) in
    let none : slice_index (numbers_of labels) i.process ≡ 0 = (ordered_pairs labels ordered i.process j.process i.inside j.inside).apart other numbers in
    omega (arith, none, n_i)
