-- Ranks of labels to which one more is added, by what each pair that it makes says.
-- The idea. After i pairs, the first i labels have their new ranks and the others their old ones (`ranks_so_far`). The
-- label that is added raises the rank of those that dominate it (`ranks_raised`) and of no other (`ranks_kept`). The code
-- knows which from two tests: whether the added label dominates the other, and whether their numbers are equal
-- (`ranks_step`). The same pairs give the rank of the label that is added (`rank_step`). `label_ranks-snoc` says what both
-- make together.
-- Read `ranks_so_far` first, then `ranks_step`.
use Rattle.std.proofs.Common.{◌≡◌, ℕ, ◌+◌, ◌<◌, ◌≤◌, ◌++◌, Bool, true, false, not, ◌&&◌, cond, eqb, List, [], ◌∷◌, length, get_or, map, take, drop, set, refl, sym, ap, ◌∙◌, arith, append_assoc, length-take-le}
use Rattle.std.specs.Prelude.{◌≢◌}
use Rattle.std.proofs.lemmas.Bool.{both_ways, eqb-true, eq-eqb, false_from_ne_true}
use Rattle.std.proofs.lemmas.List.{append-nil, drop_all, drop_more, get_or_at, length-map, map_more, map_push, set-get_or, set_at, take_all}
use Rattle.std.proofs.lemmas.List.Sums.{count_by_more_yes, count_by_more_no, sum_by-cons, sum_by_push}
use Rattle.label_core.specs.Labels.{IsLabel, dominates, same_label, dominated, label_ranks, label_number, digits_in}
use Rattle.label_core.specs.prover.Numbers.{digits_in-number}
use Rattle.label_core.proofs.Domination.{dominates_self, dominates_one_way, dominates_turn, equal_from_same}

-- labels of one length that are read as one number are one
pub equal_from_number : (digits : ℕ) (a b : List ℕ) → IsLabel digits a → IsLabel digits b → label_number a ≡ label_number b → a ≡ b
equal_from_number digits a b is_a is_b same =
    sym (digits_in-number a is_a.small) ∙ ap (λ k. digits_in k (label_number a)) (is_a.len ∙ sym is_b.len)
    ∙ ap (digits_in (length b)) same ∙ digits_in-number b is_b.small

-- of two labels with different numbers, where the first does not dominate the second does
pub other_dominates : (digits : ℕ) (a b : List ℕ) → IsLabel digits a → IsLabel digits b → dominates a b ≡ false → label_number a ≢ label_number b → dominates b a ≡ true
other_dominates digits a b is_a is_b under differ =
    dominates_turn a b (is_a.len ∙ sym is_b.len) is_a.small is_b.small
    (false_from_ne_true (same_label a b) (λ same. differ (ap label_number (equal_from_same a b same))))
    ∙ ap not under

-- where their numbers are one, neither does
pub same_dominates : (digits : ℕ) (a b : List ℕ) → IsLabel digits a → IsLabel digits b → label_number a ≡ label_number b → dominates b a ≡ false
same_dominates digits a b is_a is_b same = ap (dominates b) (equal_from_number digits a b is_a is_b same) ∙ dominates_self b

pub dominated-cons : (label : List ℕ) (labels : List (List ℕ)) (other : List ℕ) → dominated (label ∷ labels) other ≡ cond (dominates other label) 1 0 + dominated labels other
dominated-cons label labels other = sum_by-cons (λ y. cond (dominates other y) 1 0) label labels

-- the ranks of `labels` where the first `i` of them have been compared with one more
abbrev pub ranks_so_far : List ℕ → List (List ℕ) → ℕ → List ℕ
ranks_so_far label labels i = map (dominated (label ∷ labels)) (take i labels) ++ map (dominated labels) (drop i labels)

-- the next of them is found behind those
pub rank_found : (label : List ℕ) (labels : List (List ℕ)) (i : ℕ) → i < length labels
    → ranks_so_far label labels i ≡ map (dominated (label ∷ labels)) (take i labels) ++ dominated labels (get_or labels i []) ∷ map (dominated labels) (drop (i + 1) labels)
rank_found label labels i inside =
    ap (λ rest. map (dominated (label ∷ labels)) (take i labels) ++ map (dominated labels) rest) (drop_more labels i [] inside)

-- and has its new rank there
pub rank_placed : (label : List ℕ) (labels : List (List ℕ)) (i rank : ℕ) → i < length labels → rank ≡ dominated (label ∷ labels) (get_or labels i [])
    → map (dominated (label ∷ labels)) (take i labels) ++ rank ∷ map (dominated labels) (drop (i + 1) labels) ≡ ranks_so_far label labels (i + 1)
rank_placed label labels i rank inside is =
    let front : List ℕ = map (dominated (label ∷ labels)) (take i labels) in
    let rest : List ℕ = map (dominated labels) (drop (i + 1) labels) in
    ap (λ r. front ++ r ∷ rest) is ∙ sym (append_assoc front (dominated (label ∷ labels) (get_or labels i []) ∷ []) rest)
    ∙ ap (λ xs. xs ++ rest) (sym (map_more (dominated (label ∷ labels)) labels i [] inside))

unseen : (label : List ℕ) (labels : List (List ℕ)) (other : List ℕ) → dominates other label ≡ false → dominated labels other ≡ dominated (label ∷ labels) other
unseen label labels other under =
    let same : cond (dominates other label) 1 0 + dominated labels other ≡ 0 + dominated labels other = ap (λ (t : Bool). cond t 1 0 + dominated labels other) under in
    omega (arith, same, dominated-cons label labels other)

seen : (label : List ℕ) (labels : List (List ℕ)) (other : List ℕ) → dominates other label ≡ true → dominated labels other + 1 ≡ dominated (label ∷ labels) other
seen label labels other over =
    let same : cond (dominates other label) 1 0 + dominated labels other ≡ 1 + dominated labels other = ap (λ (t : Bool). cond t 1 0 + dominated labels other) over in
    omega (arith, same, dominated-cons label labels other)

-- the rank of a label that was not compared yet
pub rank_read : (label : List ℕ) (labels : List (List ℕ)) (i : ℕ) (ranks : List ℕ) → i < length labels → ranks ≡ ranks_so_far label labels i
    → get_or ranks i 0 ≡ dominated labels (get_or labels i [])
rank_read label labels i ranks inside is =
    ap (λ r. get_or r i 0) (is ∙ rank_found label labels i inside)
    ∙ get_or_at (map (dominated (label ∷ labels)) (take i labels)) (dominated labels (get_or labels i [])) (map (dominated labels) (drop (i + 1) labels)) 0 i
    (length-map (take i labels) (dominated (label ∷ labels)) ∙ length-take-le i labels (omega arith))

-- it stays where its label does not dominate the one that is added
pub ranks_kept : (label : List ℕ) (labels : List (List ℕ)) (i : ℕ) (ranks : List ℕ) → i < length labels → ranks ≡ ranks_so_far label labels i
    → dominates (get_or labels i []) label ≡ false → ranks ≡ ranks_so_far label labels (i + 1)
ranks_kept label labels i ranks inside is under =
    is ∙ rank_found label labels i inside
    ∙ rank_placed label labels i (dominated labels (get_or labels i [])) inside (unseen label labels (get_or labels i []) under)

-- and is one more where it does
pub ranks_raised : (label : List ℕ) (labels : List (List ℕ)) (i : ℕ) (ranks : List ℕ) → i < length labels → ranks ≡ ranks_so_far label labels i
    → dominates (get_or labels i []) label ≡ true → set ranks i (get_or ranks i 0 + 1) ≡ ranks_so_far label labels (i + 1)
ranks_raised label labels i ranks inside is over =
    let front : List ℕ = map (dominated (label ∷ labels)) (take i labels) in
    let rest : List ℕ = map (dominated labels) (drop (i + 1) labels) in
    ap (λ r. set ranks i (r + 1)) (rank_read label labels i ranks inside is)
    ∙ ap (λ rs. set rs i (dominated labels (get_or labels i []) + 1)) (is ∙ rank_found label labels i inside)
    ∙ set_at front (dominated labels (get_or labels i [])) rest (dominated labels (get_or labels i []) + 1) i
    (length-map (take i labels) (dominated (label ∷ labels)) ∙ length-take-le i labels (omega arith))
    ∙ rank_placed label labels i (dominated labels (get_or labels i []) + 1) inside (seen label labels (get_or labels i []) over)

pub ranks_start : (label : List ℕ) (labels : List (List ℕ)) (ranks : List ℕ) → ranks ≡ label_ranks labels → ranks ≡ ranks_so_far label labels 0
ranks_start label labels ranks is = is

pub ranks_end : (label : List ℕ) (labels : List (List ℕ)) (i : ℕ) → length labels ≤ i → ranks_so_far label labels i ≡ map (dominated (label ∷ labels)) labels
ranks_end label labels i all =
    ap (λ xs. map (dominated (label ∷ labels)) xs ++ map (dominated labels) (drop i labels)) (take_all i labels all)
    ∙ ap (λ xs. map (dominated (label ∷ labels)) labels ++ map (dominated labels) xs) (drop_all i labels all)
    ∙ append-nil (map (dominated (label ∷ labels)) labels)

-- a label that comes last dominates what it does among those before it, and they have it in their ranks
pub label_ranks-snoc : (labels : List (List ℕ)) (label : List ℕ)
    → label_ranks (labels ++ label ∷ []) ≡ map (dominated (label ∷ labels)) labels ++ dominated labels label ∷ []
label_ranks-snoc labels label =
    let last : (other : List ℕ) → dominated (labels ++ label ∷ []) other ≡ dominated (label ∷ labels) other = λ other.
    sum_by_push (λ y. cond (dominates other y) 1 0) labels label ∙ omega (arith, dominated-cons label labels other) in
    map_push (dominated (labels ++ label ∷ [])) labels label
    ∙ ap (λ xs. xs ++ dominated (labels ++ label ∷ []) label ∷ []) (λ i. map (λ other. last other i) labels)
    ∙ ap (λ rank. map (dominated (label ∷ labels)) labels ++ rank ∷ []) (last label ∙ sym (unseen label labels label (dominates_self label)))

-- what a test counts: 1 where it holds
pub record Counts (test : Bool) (count : ℕ) : Type 0 where
  pub one : test ≡ true → count ≡ 1
  pub none : test ≡ false → count ≡ 0

-- one more pair, as the code counts it: `over` where the label that is added dominates the other, `same`
-- where their numbers are one
pub ranks_step : (digits : ℕ) (label : List ℕ) (labels : List (List ℕ)) (i : ℕ) (ranks : List ℕ) (over same : Bool) (count : ℕ) → i < length labels → ranks ≡ ranks_so_far label labels i
    → IsLabel digits label → IsLabel digits (get_or labels i []) → over ≡ dominates label (get_or labels i []) → same ≡ eqb (label_number label) (label_number (get_or labels i []))
    → Counts (not over && not same) count → set ranks i (get_or ranks i 0 + count) ≡ ranks_so_far label labels (i + 1)
ranks_step digits label labels i ranks true same count inside is is_label is_other over_is same_is counts =
    ap (λ n. set ranks i (get_or ranks i 0 + n)) (counts.none refl) ∙ ap (set ranks i) (let kept : get_or ranks i 0 + 0 ≡ get_or ranks i 0 = omega arith in kept) ∙ set-get_or ranks i 0
    ∙ ranks_kept label labels i ranks inside is (dominates_one_way label (get_or labels i []) (sym over_is))
ranks_step digits label labels i ranks false true count inside is is_label is_other over_is same_is counts =
    ap (λ n. set ranks i (get_or ranks i 0 + n)) (counts.none refl) ∙ ap (set ranks i) (let kept : get_or ranks i 0 + 0 ≡ get_or ranks i 0 = omega arith in kept) ∙ set-get_or ranks i 0
    ∙ ranks_kept label labels i ranks inside is (same_dominates digits label (get_or labels i []) is_label is_other (eqb-true _ _ (sym same_is)))
ranks_step digits label labels i ranks false false count inside is is_label is_other over_is same_is counts =
    ap (λ n. set ranks i (get_or ranks i 0 + n)) (counts.one refl)
    ∙ ranks_raised label labels i ranks inside is (other_dominates digits label (get_or labels i []) is_label is_other (sym over_is)
    (λ one. both_ways (eqb (label_number label) (label_number (get_or labels i []))) (sym same_is) (eq-eqb _ _ one)))

pub rank_step : (label : List ℕ) (labels : List (List ℕ)) (i rank : ℕ) (over : Bool) (count : ℕ) → i < length labels → rank ≡ dominated (take i labels) label
    → over ≡ dominates label (get_or labels i []) → Counts over count → rank + count ≡ dominated (take (i + 1) labels) label
rank_step label labels i rank true count inside is over_is counts =
    omega (arith, counts.one refl, is, count_by_more_yes (dominates label) labels i [] inside (sym over_is))
rank_step label labels i rank false count inside is over_is counts =
    omega (arith, counts.none refl, is, count_by_more_no (dominates label) labels i [] inside (sym over_is))

-- a count is at most 1
pub counts_le : (test : Bool) (count : ℕ) → Counts test count → count ≤ 1
counts_le true count counts = omega (arith, counts.one refl)
counts_le false count counts = omega (arith, counts.none refl)
