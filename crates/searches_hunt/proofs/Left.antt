-- What is left of a schedule where items are left out. It is said in two ways: by cases (`IsLeft`: each item is kept or
-- left out), and by the places of those that are left out (`IsPartOf`). `left_part` leads from the first to the second.
-- What is left of what is left is left of the whole (`left_again`). It is not longer (`left_short`), and its items are
-- lawful (`left_lawful`). The code leaves out all items from one place to another (`left_without`), or asks of each
-- (`left_on`).
-- The idea. By cases each of these is a short induction. `IsFaultOf` adds that what is left still leads to a fault, and
-- `fault_again` puts two of these together.
-- The difficulty is the places. Each is counted in what is left so far, so those of a list without its first item are
-- one more in the whole (`left_more`). Of two same neighbours it doesn't matter which is left out (`without_same`).
-- Read `left_again` first, then `left_part` and `fault_again`.
use Rattle.std.proofs.Common.{◌≡◌, ◌⊎◌, ⊎_elim, get_or, ℕ, zero, suc, ◌+◌, ◌-◌, ◌<◌, ◌≤◌, List, [], ◌∷◌, ◌++◌, length, take, drop, map, replicate, refl, sym, ◌∙◌, ap, subst, arith, length-append, Option, Some, None, IfSome, IfNone, MatchOption}
use Rattle.std.specs.Prelude.{Result, Vec, IfOk, slice_get}
use Rattle.std.specs.Global.{Global}
use Rattle.std.proofs.lemmas.Option.{same_Some}
use Rattle.std.proofs.lemmas.Result.{IfOk-weaker}
use Rattle.std.specs.List.{All}
use Rattle.std.proofs.lemmas.List.{take-append-drop, length-drop, length-take-le, take_at, drop_at, drop-drop, append-nil, take_more}
use Rattle.std.proofs.lemmas.List.Elements.{All-cons, All-head, All-tail}
use Rattle.base.specs.Plain.{WholeProgram}
use Rattle.language_properties.specs.Properties.{Formula}
use Rattle.searches_hunt.specs.Hunts.{without, left_of, IsPartOf}
use Rattle.searches_hunt.specs.Never.{IsFaultless}
use Rattle.searches_hunt.specs.prover.Parts.{IsLeft, no_items, one_out, one_kept, IsFault, IsFaultOf}

left_append : (xs ys schedule : List ℕ) → left_of (xs ++ ys) schedule ≡ left_of ys (left_of xs schedule)
left_append [] ys schedule = refl
left_append (x ∷ xs) ys schedule = left_append xs ys (without x schedule)

pub part_of_part : (first second third : List ℕ) → IsPartOf second first → IsPartOf third second → IsPartOf third first
part_of_part first second third (xs, e) (ys, f) = (xs ++ ys, f ∙ ap (left_of ys) e ∙ sym (left_append xs ys first))

-- the items after some are left out, first one
without_next : (front back : List ℕ) → without (length front) (front ++ back) ≡ front ++ drop 1 back
without_next front back =
    let next : length front + 1 ≡ suc (length front) = omega arith in
    ap (λ xs. xs ++ drop (length front + 1) (front ++ back)) (take_at front back (length front) refl)
    ∙ ap (λ xs. front ++ xs) (sym (drop-drop 1 (length front) (front ++ back)) ∙ ap (drop 1) (drop_at front back (length front) refl))

-- and then as many as are to be
without_some : (k : ℕ) (front back : List ℕ) → left_of (replicate k (length front)) (front ++ back) ≡ front ++ drop k back
without_some zero front back = refl
without_some (suc k) front back =
    ap (left_of (replicate k (length front))) (without_next front back)
    ∙ without_some k front (drop 1 back)
    ∙ ap (λ xs. front ++ xs) (drop-drop k 1 back ∙ ap (λ i. drop i back) (let e : 1 + k ≡ suc k = omega arith in e))

-- the items from one place to another are left out
pub part_without : (i j : ℕ) (schedule : List ℕ) → i ≤ j → j ≤ length schedule → IsPartOf (take i schedule ++ drop j schedule) schedule
part_without i j schedule h inside =
    let front = take i schedule in
    let back = drop i schedule in
    let long : length front ≡ i = length-take-le i schedule (omega arith) in
    let rest : drop (j - i) back ≡ drop j schedule = drop-drop (j - i) i schedule ∙ ap (λ k. drop k schedule) (let e : i + (j - i) ≡ j = omega arith in e) in (
      replicate (j - i) (length front),
      ap (λ xs. front ++ xs) (sym rest) ∙ sym (without_some (j - i) front back)
          ∙ ap (left_of (replicate (j - i) (length front))) (take-append-drop i schedule),
    )

drop_whole : (xs : List ℕ) → drop (length xs) xs ≡ []
drop_whole [] = refl
drop_whole (x ∷ xs) = drop_whole xs

-- the first items of a list
pub part_first : (front back whole : List ℕ) → whole ≡ front ++ back → IsPartOf front whole
part_first front back whole e =
    let there : length front ≤ length whole = let f = ap length e ∙ length-append front back in omega arith in
    let is : take (length front) whole ++ drop (length whole) whole ≡ front =
    ap (λ xs. xs ++ drop (length whole) whole) (ap (take (length front)) e ∙ take_at front back (length front) refl)
    ∙ ap (λ xs. front ++ xs) (drop_whole whole) ∙ append-nil front in
    subst (λ xs. IsPartOf xs whole) is (part_without (length front) (length whole) whole there (omega arith))

pub length_without : (i j : ℕ) (schedule : List ℕ) → i ≤ j → j ≤ length schedule → length (take i schedule ++ drop j schedule) + (j - i) ≡ length schedule
length_without i j schedule h inside =
    let a = length-append (take i schedule) (drop j schedule) in
    let b = length-take-le i schedule (omega arith) in
    let c = length-drop j schedule in
    omega arith

length_split : (place : ℕ) (schedule : List ℕ) → length (take place schedule) + length (drop place schedule) ≡ length schedule
length_split place schedule = sym (length-append (take place schedule) (drop place schedule)) ∙ ap length (take-append-drop place schedule)

short_without : (place : ℕ) (schedule : List ℕ) → length (without place schedule) ≤ length schedule
short_without place schedule =
    let a = length-append (take place schedule) (drop (place + 1) schedule) in
    let b = length_split place schedule in
    let c = length-drop (place + 1) schedule in
    let d = length-drop place schedule in
    omega arith

short_left : (places schedule : List ℕ) → length (left_of places schedule) ≤ length schedule
short_left [] schedule = omega arith
short_left (place ∷ places) schedule =
    let a = short_left places (without place schedule) in
    let b = short_without place schedule in
    omega arith

pub part_short : (part schedule : List ℕ) → IsPartOf part schedule → length part ≤ length schedule
part_short part schedule (places, e) = let a = ap length e in let b = short_left places schedule in omega arith

-- the same by cases
pub left_all : (xs : List ℕ) → IsLeft xs xs
left_all [] = no_items
left_all (x ∷ xs) = one_kept x xs xs (left_all xs)

pub left_none : (ys : List ℕ) → IsLeft [] ys
left_none [] = no_items
left_none (y ∷ ys) = one_out y [] ys (left_none ys)

pub left_both : (xs ys xs' ys' : List ℕ) → IsLeft xs ys → IsLeft xs' ys' → IsLeft (xs ++ xs') (ys ++ ys')
left_both _ _ xs' ys' no_items more = more
left_both _ _ xs' ys' (one_out y xs ys left) more = one_out y (xs ++ xs') (ys ++ ys') (left_both xs ys xs' ys' left more)
left_both _ _ xs' ys' (one_kept y xs ys left) more = one_kept y (xs ++ xs') (ys ++ ys') (left_both xs ys xs' ys' left more)

pub left_again : (xs ys zs : List ℕ) → IsLeft xs ys → IsLeft ys zs → IsLeft xs zs
left_again xs _ _ left no_items = left
left_again xs _ _ left (one_out z ys zs more) = one_out z xs zs (left_again xs ys zs left more)
left_again _ _ _ (one_out y xs ys left) (one_kept y' ys' zs more) = one_out y xs zs (left_again xs ys zs left more)
left_again _ _ _ (one_kept y xs ys left) (one_kept y' ys' zs more) = one_kept y xs zs (left_again xs ys zs left more)

pub left_short : (xs ys : List ℕ) → IsLeft xs ys → length xs ≤ length ys
left_short _ _ no_items = omega arith
left_short _ _ (one_out y xs ys left) = let h = left_short xs ys left in omega arith
left_short _ _ (one_kept y xs ys left) = let h = left_short xs ys left in omega arith

pub left_lawful : (P : ℕ → Type 0) (xs ys : List ℕ) → IsLeft xs ys → All P ys → All P xs
left_lawful P _ _ no_items all = all
left_lawful P _ _ (one_out y xs ys left) all = left_lawful P xs ys left (All-tail P y ys all)
left_lawful P _ _ (one_kept y xs ys left) all = All-cons P y xs (All-head P y ys all) (left_lawful P xs ys left (All-tail P y ys all))

-- by places: those of a list without its first item are one more in the whole
left_more : (places : List ℕ) (y : ℕ) (ys : List ℕ) → left_of (map suc places) (y ∷ ys) ≡ y ∷ left_of places ys
left_more [] y ys = refl
left_more (place ∷ places) y ys =
    ap (λ i. left_of (map suc places) (y ∷ take place ys ++ drop i (y ∷ ys))) (let e : suc place + 1 ≡ suc (place + 1) = omega arith in e)
    ∙ left_more places y (without place ys)

pub left_part : (xs ys : List ℕ) → IsLeft xs ys → IsPartOf xs ys
left_part _ _ no_items = ([], refl)
left_part _ _ (one_out y xs ys left) = let is = left_part xs ys left in (0 ∷ is.0, is.1)
left_part _ _ (one_kept y xs ys left) = let is = left_part xs ys left in (map suc is.0, ap (λ l. y ∷ l) is.1 ∙ sym (left_more is.0 y ys))

left_drop : (k : ℕ) (ys : List ℕ) → IsLeft (drop k ys) ys
left_drop zero ys = left_all ys
left_drop (suc k) [] = no_items
left_drop (suc k) (y ∷ ys) = one_out y (drop k ys) ys (left_drop k ys)

pub left_without : (i j : ℕ) (ys : List ℕ) → i ≤ j → IsLeft (take i ys ++ drop j ys) ys
left_without i j ys h =
    let rest : drop (j - i) (drop i ys) ≡ drop j ys = drop-drop (j - i) i ys ∙ ap (λ k. drop k ys) (let e : i + (j - i) ≡ j = omega arith in e) in
    let later : IsLeft (drop j ys) (drop i ys) = subst (λ l. IsLeft l (drop i ys)) rest (left_drop (j - i) (drop i ys)) in
    subst (IsLeft (take i ys ++ drop j ys)) (take-append-drop i ys) (left_both (take i ys) (take i ys) (drop j ys) (drop i ys) (left_all (take i ys)) later)

-- of the first items of a list
pub left_first : (i : ℕ) (xs ys : List ℕ) → IsLeft xs (take i ys) → IsLeft xs ys
left_first i xs ys left =
    let both = left_both xs (take i ys) [] (drop i ys) left (left_none (drop i ys)) in
    subst (λ l. IsLeft l ys) (append-nil xs) (subst (IsLeft (xs ++ [])) (take-append-drop i ys) both)

-- one item more of a list, which is kept or left out
pub left_on : (i : ℕ) (xs xs' ys : List ℕ) → i < length ys → IsLeft xs (take i ys)
    → (xs' ≡ xs ++ get_or ys i 0 ∷ []) ⊎ (xs' ≡ xs) → IsLeft xs' (take (i + 1) ys)
left_on i xs xs' ys inside left on =
    let y = get_or ys i 0 in
    let first = take i ys in
    subst (IsLeft xs') (sym (take_more ys i 0 inside)) (⊎_elim
    (λ is. subst (λ l. IsLeft l (first ++ y ∷ [])) (sym is) (left_both xs first (y ∷ []) (y ∷ []) left (left_all (y ∷ []))))
    (λ same. subst (λ l. IsLeft l (first ++ y ∷ [])) (append-nil xs ∙ sym same) (left_both xs first [] (y ∷ []) left (left_none (y ∷ []))))
    on)

module _ (a : WholeProgram ℕ) (lines : List Formula) where
  pub fault_all : (schedule : List ℕ) → IsFault a lines schedule → IsFaultOf a lines schedule schedule
  fault_all schedule fault = record { fault = fault; left = left_all schedule }

  pub fault_again : (first second third : List ℕ) → IsFaultOf a lines first second → IsFaultOf a lines second third → IsFaultOf a lines first third
  fault_again first second third f s = record { fault = s.fault; left = left_again third second first s.left f.left }

  pub fault_once_more : {E : Type 0} (first second : List ℕ) (found : Result (Vec ℕ Global) E) → IsFaultOf a lines first second
      → IfOk found (λ s. IsFaultOf a lines second s.items) → IfOk found (λ s. IsFaultOf a lines first s.items)
  fault_once_more first second found f = IfOk-weaker found _ _ (λ s. fault_again first second s.items f)

  -- of what is left of a schedule
  pub fault_of_left : (first second third : List ℕ) → IsLeft second first → IsFaultOf a lines second third → IsFaultOf a lines first third
  fault_of_left first second third f s = record { fault = s.fault; left = left_again third second first s.left f }

  -- one that was found in the schedule as it is seen by a call
  pub fault_seen : (whole schedule seen fewer : List ℕ) → IsFaultOf a lines whole schedule → seen ≡ schedule → IsFaultOf a lines seen fewer
      → IsFaultOf a lines whole fewer
  fault_seen whole schedule seen fewer of_whole same of_seen =
      fault_again whole schedule fewer of_whole (subst (λ l. IsFaultOf a lines l fewer) same of_seen)

-- Of two neighbours that are the same, to leave out the one or the other comes to the same.
left_same : (k : ℕ) (xs : List ℕ) → suc k < length xs → slice_get xs (suc k) ≡ slice_get xs k
    → take (suc k) xs ++ drop (suc (suc k)) xs ≡ take k xs ++ drop (suc k) xs
left_same k [] inside same = absurd (omega arith)
left_same zero (x ∷ []) inside same = absurd (omega arith)
left_same zero (x ∷ y ∷ xs) inside same = ap (λ z. z ∷ xs) (sym (same_Some y x same))
left_same (suc k) (x ∷ xs) inside same = ap (λ l. x ∷ l) (left_same k xs (omega arith) same)

pub without_same : (at : ℕ) (xs : List ℕ) → 0 < at → at < length xs → slice_get xs at ≡ slice_get xs (at - 1) → without at xs ≡ without (at - 1) xs
without_same zero xs some inside same = absurd (omega arith)
without_same (suc k) xs some inside same =
    let before : suc k - 1 ≡ k = omega arith in
    ap (λ i. take (suc k) xs ++ drop i xs) (let e : suc k + 1 ≡ suc (suc k) = omega arith in e)
    ∙ left_same k xs inside (same ∙ ap (slice_get xs) before)
    ∙ ap (λ i. take k xs ++ drop i xs) (let e : suc k ≡ k + 1 = omega arith in e)
    ∙ ap (λ i. without i xs) (sym before)

pub some_at : {X : Type 0} (P : X → Type 0) (o : Option X) (x : X) → o ≡ Some x → IfSome o P → P x
some_at P o x is h = subst (λ q. IfSome q P) is h

pub none_at : {X : Type 0} (P : Type 0) (o : Option X) → o ≡ None → IfNone o P → P
none_at P o is h = subst (λ q. IfNone q P) is h

pub some_of : {X : Type 0} (A : Type 0) (B C : X → Type 0) → ((x : X) → B x → C x) → (o : Option X) → MatchOption o A B → IfSome o C
some_of A B C f None h = tt
some_of A B C f (Some x) h = f x h

-- what follows of the steps to a fault of what is left
pub fault_left : {E : Type 0} (a : WholeProgram ℕ) (lines : List Formula) (rest : List ℕ) (told : Result (Option (Vec ℕ Global)) E)
    (P : Vec ℕ Global → Type 0) → ((made : Vec ℕ Global) → IsFaultOf a lines rest made.items → P made)
    → IfOk told (λ o. MatchOption o (IsFaultless a lines rest) (λ made. IsFaultOf a lines rest made.items)) → IfOk told (λ o. IfSome o P)
fault_left a lines rest told P f is =
    IfOk-weaker told _ _ (some_of (IsFaultless a lines rest) (λ made. IsFaultOf a lines rest made.items) P f) is
