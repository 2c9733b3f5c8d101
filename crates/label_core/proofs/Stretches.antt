-- The labels that begin with some digits are those with the numbers of one stretch.
--
-- The idea. What is left of a label's number by the weight of its last digits is the number of its first
-- ones (`number_front`), so a label begins with the digits of another exactly where these numbers are one
-- (`begins_number`). As many labels lie below the stretch as the byte of its first number says, and a byte
-- that wraps is below the count in the stretch alone (`wrapped_within`). So the code counts the labels that
-- begin so (`count_begins`). `place` has all that the code knows at a digit of the greatest.
use Rattle.std.proofs.Common.{◌≡◌, ℕ, zero, suc, ◌+◌, ◌-◌, ◌*◌, ◌/◌, ◌%◌, ◌^◌, ◌<◌, ◌≤◌, Bool, true, cond, ltb, eqb, List, [], ◌∷◌, ◌++◌, length, take, drop, get_or, refl, sym, ap, ◌∙◌, subst, arith, ⊎_elim, take-append-drop, length-take-le, length-drop}
use Rattle.std.specs.Prelude.{All, count_by}
use Rattle.std.specs.List.{AllByRecursion}
use Rattle.std.proofs.Math.Nat.{pow-suc, pow-le-pow_right}
use Rattle.std.proofs.lemmas.Bool.{and_parts, both_ways, cases_lt, cases_Bool, eqb-true, eq-eqb, ne_eqb, lt-ltb, le-ltb}
use Rattle.std.proofs.lemmas.Nat.{div-add-mod', div-mul-add, mod_below, mul-le, pow-add}
use Rattle.std.proofs.lemmas.List.Elements.{All-head, All-tail, All-take, All-drop, recursion_from_All}
use Rattle.std.proofs.lemmas.List.Sums.{sum_by-cons}
use Rattle.label_core.specs.Labels.{IsLabel, AreAlike, label_number}
use Rattle.label_core.specs.prover.Numbers.{is_within, some_labels, number_fits, number-append}
use Rattle.label_core.proofs.Held.{number_in_table, number_more}
use Rattle.label_core.proofs.Pairs.{equal_from_number}
use Rattle.label_core.specs.declared.table.TheConstants.{COUNTS}
use Rattle.label_core.proofs.Reaching.{begins}
use Rattle.label_core.proofs.Turning.{IsNumberOf, counts_are, turned, turned_is}

begins_self : (digits rest : List ℕ) → begins digits (digits ++ rest) ≡ true
begins_self [] rest = refl
begins_self (digit ∷ digits) rest = rw (eq-eqb digit digit refl) (begins_self digits rest)

-- where the first digits are these, the label begins with them
begins_taken : (k : ℕ) (top label : List ℕ) → take k label ≡ take k top → begins (take k top) label ≡ true
begins_taken k top label same =
    ap (λ whole. begins (take k top) whole) (sym (take-append-drop k label) ∙ ap (λ front. front ++ drop k label) same) ∙ begins_self (take k top) (drop k label)

taken_begins : (k : ℕ) (top label : List ℕ) → k ≤ length top → begins (take k top) label ≡ true → take k label ≡ take k top
taken_begins zero top label few begun = refl
taken_begins (suc k) [] label few begun = absurd (omega arith)
taken_begins (suc k) (digit ∷ top) [] few begun = cc
taken_begins (suc k) (digit ∷ top) (first ∷ label) few begun =
    let few' : suc k ≤ suc (length top) = few in
    let parts = and_parts (eqb first digit) (begins (take k top) label) begun in
    let here : first ≡ digit = eqb-true first digit parts.0 in
    let rest : take k label ≡ take k top = taken_begins k top label (omega arith) parts.1 in
    cc

-- the number of the first digits of a label
number_front : (k : ℕ) (label : List ℕ) → All (λ digit. digit < 3) label → label_number label / 3 ^ (length label - k) ≡ label_number (take k label)
number_front k label small =
    let rest : List ℕ = drop k label in
    let weight : ℕ = 3 ^ (length label - k) in
    let below : label_number rest < weight = subst (λ n. label_number rest < 3 ^ n) (length-drop k label) (number_fits rest (All-drop (λ digit. digit < 3) k label small)) in
    let split : label_number label ≡ label_number (take k label) * weight + label_number rest =
    ap label_number (sym (take-append-drop k label)) ∙ number-append (take k label) rest
    ∙ ap (λ n. label_number (take k label) * 3 ^ n + label_number rest) (length-drop k label) in
    ap (λ n. n / weight) split ∙ div-mul-add (label_number (take k label)) weight (label_number rest) below

front_label : (digits k : ℕ) (label : List ℕ) → IsLabel digits label → k ≤ digits → IsLabel k (take k label)
front_label digits k label is few = record { len = length-take-le k label (omega (arith, is.len, few)); small = All-take (λ digit. digit < 3) k label is.small }

begins_number : (digits k : ℕ) (top label : List ℕ) → IsLabel digits top → IsLabel digits label → k ≤ digits
    → begins (take k top) label ≡ eqb (label_number label / 3 ^ (digits - k)) (label_number (take k top))
begins_number digits k top label is_top is few =
    let front : label_number label / 3 ^ (digits - k) ≡ label_number (take k label) =
    subst (λ d. label_number label / 3 ^ (d - k) ≡ label_number (take k label)) is.len (number_front k label is.small) in
    ⊎_elim
    (λ yes. yes ∙ sym (eq-eqb _ _ (front ∙ ap label_number (taken_begins k top label (omega (arith, is_top.len, few)) yes))))
    (λ no. no ∙ sym (ne_eqb _ _ (λ same.
    both_ways (begins (take k top) label) no (begins_taken k top label
    (equal_from_number k (take k label) (take k top) (front_label digits k label is few) (front_label digits k top is_top few) (sym front ∙ same))))))
    (cases_Bool (begins (take k top) label))

-- a byte less the first number of a stretch, as it wraps, is below the count in the stretch alone
wrapped_within : (q w read : ℕ) → 0 < w → q * w + w ≤ 256 → read < 256 → ltb ((read + (256 - q * w)) % 256) w ≡ eqb (read / w) q
wrapped_within q w read some room small =
    let first : ℕ = q * w in
    let whole : read / w * w + read % w ≡ read = div-add-mod' read w in
    let rest : read % w < w = mod_below read w some in
    ⊎_elim
    (λ before.
    let wrapped : (read + (256 - first)) % 256 ≡ read + (256 - first) = omega (arith, before, room, small) in
    le-ltb _ _ (omega (arith, wrapped, before, room))
    ∙ sym (ne_eqb (read / w) q (λ same. omega (arith, before, ap (λ k. k * w) same, whole))))
    (λ from. ⊎_elim
    (λ inside.
    let wrapped : (read + (256 - first)) % 256 ≡ read - first = omega (arith, from, room, small) in
    let split : read ≡ q * w + (read - first) = omega (arith, from) in
    lt-ltb _ _ (omega (arith, wrapped, inside, from))
    ∙ sym (eq-eqb (read / w) q (ap (λ r. r / w) split ∙ div-mul-add q w (read - first) (omega (arith, inside, from)))))
    (λ past.
    let wrapped : (read + (256 - first)) % 256 ≡ read - first = omega (arith, from, room, small) in
    le-ltb _ _ (omega (arith, wrapped, past))
    ∙ sym (ne_eqb (read / w) q (λ same. omega (arith, past, ap (λ k. k * w) same, whole, rest))))
    (cases_lt read (first + w)))
    (cases_lt read first)

-- the stretch of the first digits of a label: its first number, and that it fits a byte
pub record Stretch (digits k : ℕ) (top : List ℕ) (first : ℕ) : Type 0 where
  pub starts : first ≡ label_number (take k top) * 3 ^ (digits - k)
  pub room : first + 3 ^ (digits - k) ≤ 243

pub stretch : (digits k : ℕ) (top : List ℕ) (first : ℕ) → IsLabel digits top → digits ≤ 5 → k ≤ digits
    → first ≡ label_number (take k top) * 3 ^ (digits - k) → Stretch digits k top first
stretch digits k top first is few inside starts =
    let weight : ℕ = 3 ^ (digits - k) in
    let front : IsLabel k (take k top) = front_label digits k top is inside in
    let below : label_number (take k top) < 3 ^ k = subst (λ n. label_number (take k top) < 3 ^ n) front.len (number_fits (take k top) front.small) in
    let most : (label_number (take k top) + 1) * weight ≤ 3 ^ k * weight = mul-le (label_number (take k top) + 1) weight (3 ^ k) weight (omega (arith, below)) (omega arith) in
    let whole : k + (digits - k) ≡ digits = omega (arith, inside) in
    let product : 3 ^ k * weight ≡ 3 ^ digits = sym (pow-add 3 k (digits - k)) ∙ ap (λ n. 3 ^ n) whole in
    let table : 3 ^ digits ≤ 3 ^ 5 = pow-le-pow_right (omega arith) few in
    record { starts = starts; room = omega (arith, starts, most, product, table) }

within_begins : (digits k : ℕ) (top label : List ℕ) (first : ℕ) → IsLabel digits top → IsLabel digits label → digits ≤ 5 → k ≤ digits
    → Stretch digits k top first → is_within first (3 ^ (digits - k)) label ≡ begins (take k top) label
within_begins digits k top label first is_top is few inside s =
    let weight : ℕ = 3 ^ (digits - k) in
    let small : label_number label < 243 = number_in_table digits (label_number label) few (subst (λ n. label_number label < 3 ^ n) is.len (number_fits label is.small)) in
    ap (λ f. ltb ((label_number label + (256 - f)) % 256) weight) s.starts
    ∙ wrapped_within (label_number (take k top)) weight (label_number label) (some_labels (digits - k)) (omega (arith, s.starts, s.room)) (omega (arith, small))
    ∙ sym (begins_number digits k top label is_top is inside)

-- so counting the one counts the other
pub count_begins : (digits k : ℕ) (top : List ℕ) (labels : List (List ℕ)) (first : ℕ) → IsLabel digits top → AllByRecursion (IsLabel digits) labels → digits ≤ 5 → k ≤ digits
    → Stretch digits k top first → count_by (is_within first (3 ^ (digits - k))) labels ≡ count_by (begins (take k top)) labels
count_begins digits k top [] first is_top are few inside s = refl
count_begins digits k top (label ∷ labels) first is_top are few inside s =
    sum_by-cons (λ x. cond (is_within first (3 ^ (digits - k)) x) 1 0) label labels
    ∙ ap (λ (t : Bool). cond t 1 0 + count_by (is_within first (3 ^ (digits - k))) labels) (within_begins digits k top label first is_top are.0 few inside s)
    ∙ ap (λ n. cond (begins (take k top) label) 1 0 + n) (count_begins digits k top labels first is_top are.1 few inside s)
    ∙ sym (sum_by-cons (λ x. cond (begins (take k top) x) 1 0) label labels)

-- a digit more: the first number of the stretch of the digits up to this one
pub stretch_more : (top : List ℕ) (at before : ℕ) → at < length top → before ≡ label_number (take at top) * 3 ^ (length top - at)
    → before + get_or top at 0 * 3 ^ (length top - (at + 1)) ≡ label_number (take (at + 1) top) * 3 ^ (length top - (at + 1))
stretch_more top at before inside is =
    let weight : ℕ = 3 ^ (length top - (at + 1)) in
    let left : length top - at ≡ suc (length top - (at + 1)) = omega (arith, inside) in
    let wide : 3 ^ (length top - at) ≡ weight * 3 = ap (λ k. 3 ^ k) left ∙ pow-suc 3 (length top - (at + 1)) in
    let start : before ≡ label_number (take at top) * (weight * 3) = is ∙ ap (λ w. label_number (take at top) * w) wide in
    let more : (label_number (take at top) * 3 + get_or top at 0) * weight ≡ label_number (take (at + 1) top) * weight = ap (λ n. n * weight) (number_more top at inside) in
    omega (arith, start, more)

-- as the code computes it
pub first_is : (top : List ℕ) (at before digit len : ℕ) → length top ≤ 5 → at < length top → before ≡ label_number (take at top) * 3 ^ (length top - at)
    → digit ≡ get_or top at 0 → len ≡ length top
    → before + digit * get_or COUNTS (len - (at + 1)) 0 ≡ label_number (take (at + 1) top) * 3 ^ (length top - (at + 1))
first_is top at before digit len few inside is digit_is len_is =
    ap (λ k. before + digit * get_or COUNTS (k - (at + 1)) 0) len_is
    ∙ ap (λ w. before + digit * w) (counts_are (length top - (at + 1)) (omega (arith, few)))
    ∙ ap (λ d. before + d * 3 ^ (length top - (at + 1))) digit_is
    ∙ stretch_more top at before inside is

-- the labels are as long as the greatest
alike : (top : List ℕ) (labels : List (List ℕ)) → AreAlike (top ∷ labels) → All (IsLabel (length top)) (top ∷ labels)
alike top labels are =
    subst (λ d. All (IsLabel d) (top ∷ labels)) (sym (All-head (IsLabel are.0) top labels are.1).len) are.1

-- where the code stands after some digits of the greatest: at a stretch that its labels begin in, and at
-- the number of each label that turns the last of these digits
pub record Place (top : List ℕ) (labels : List (List ℕ)) (at before len first weight : ℕ) : Type 0 where
  pub starts : first ≡ label_number (take (at + 1) top) * 3 ^ (length top - (at + 1))
  pub room : first < 256
  pub counted : count_by (is_within first weight) labels ≡ count_by (begins (take (at + 1) top)) labels
  pub turns : (digit : ℕ) → digit < 3 → IsNumberOf len (turned at digit top) (before + digit * weight)

pub place : (top : List ℕ) (labels : List (List ℕ)) (at before digit len : ℕ) → AreAlike (top ∷ labels) → length top ≤ 5 → at < len
    → before ≡ label_number (take at top) * 3 ^ (length top - at) → digit ≡ get_or top at 0 → len ≡ length top
    → Place top labels at before len (before + digit * get_or COUNTS (len - (at + 1)) 0) (get_or COUNTS (len - (at + 1)) 0)
place top labels at before digit len are few inside is digit_is len_is =
    let whole : ℕ = length top in
    let weight : ℕ = get_or COUNTS (len - (at + 1)) 0 in
    let first : ℕ = before + digit * weight in
    let each : All (IsLabel whole) (top ∷ labels) = alike top labels are in
    let is_top : IsLabel whole top = All-head (IsLabel whole) top labels each in
    let others : AllByRecursion (IsLabel whole) labels = recursion_from_All (IsLabel whole) labels (All-tail (IsLabel whole) top labels each) in
    let starts : first ≡ label_number (take (at + 1) top) * 3 ^ (whole - (at + 1)) = first_is top at before digit len few (omega (arith, inside, len_is)) is digit_is len_is in
    let s : Stretch whole (at + 1) top first = stretch whole (at + 1) top first is_top few (omega (arith, inside, len_is)) starts in
    let wide : weight ≡ 3 ^ (whole - (at + 1)) = ap (λ k. get_or COUNTS (k - (at + 1)) 0) len_is ∙ counts_are (whole - (at + 1)) (omega (arith, few)) in
    record {
      starts = starts;
      room = omega (arith, s.room);
      counted = ap (λ w. count_by (is_within first w) labels) wide ∙ count_begins whole (at + 1) top labels first is_top others few (omega (arith, inside, len_is)) s;
      turns = λ new small. turned_is len at new before weight top (subst (λ d. IsLabel d top) (sym len_is) is_top) (omega (arith, few, len_is)) inside small is refl;
    }
