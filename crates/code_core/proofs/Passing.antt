-- A pass over the places of a code tells its first fault.
--
-- The idea. By definition a place has the height that the instruction before it hands on, else the one that the
-- first jump to it leaves, and `known passed q` looks for it among all instructions that were passed. The code
-- keeps a table in its place: for each place that was passed its height, and for each one ahead what the first
-- jump to it left, if one did. What holds after `k` places is the record `Passing` (`specs/prover/Passing.antt`):
--
--     each           the entry of each place `q` is `known passed q`
--     told           the first fault of the whole code is the first fault from here on: none was passed
--     whole          the heights of the whole code are those that were passed, and then those from here on
--     low            no height is above `k`, so that 16 bits hold it; nor is what is handed on (`low_before`)
--     greatest_is    the greatest height so far
--     long, held     as many places were passed, and the table has as many entries as the code
--
-- One step takes the instruction at place `k`: it gets its height `h`, its fault is looked for, and what it leaves
-- is noted at the place to which it jumps. Each part of `Passing` is a lemma for `k + 1`. What becomes of the
-- entry of a place `q` depends on where `q` lies (`order`): below `k` it is what it was, at `k` it is the one just
-- written, and ahead of `k` it is what jumps left, earlier ones first (`either`).
--
-- The turn is `fault_is`. The definition looks for a fault with all that is known once this instruction was passed
-- too; the code looks into its table before it notes this instruction's own jump. They differ where the jump goes
-- ahead to a place of which nothing was known. But there the definition compares what the instruction leaves with
-- itself, so neither finds a difference (`there_same`).
--
-- The induction is the loop's: `pass_start` before the first place, `pass_on` for one place more where there is no
-- fault, `fault_told` where there is one, and `pass_end` after the last.
use Rattle.std.proofs.Common.{◌≡◌, ⊎_elim, ℕ, zero, suc, ◌+◌, ◌<◌, ◌≤◌, max, Bool, true, false, if◌then◌else◌, List, [], ◌∷◌, ◌++◌, refl, ap, ◌∙◌, sym, subst, length, map, drop, set, get_or, replicate, arith, Option, Some, None, append_assoc}
use Rattle.std.specs.Prelude.{slice_get}
use Rattle.std.proofs.lemmas.Bool.{cases_eq, ne_eqb}
use Rattle.std.proofs.lemmas.List.{append-nil, map-append, length-append, length-set, length-replicate}
use Rattle.std.proofs.lemmas.Option.{same_Some, none-some, slice_get_within, slice_get-get_or}
use Rattle.std.proofs.Math.Nat.{eq-or-lt_of_le}
use Rattle.std.proofs.Math.Seq.{drop-length}
use Rattle.code_core.specs.declared.instr.Instr.{Instr}
use Rattle.code_core.specs.declared.fault.CodeFault.{CodeFault}
use Rattle.code_core.specs.Instructions.{CodeSizes, left, target, goes_on}
use Rattle.code_core.specs.Heights.{Placed, jumps_to, jump_height, height_by, hands_on, placed_from, placed, heights, greatest, greatest_height}
use Rattle.code_core.specs.Verified.{differs, is_past, height_of, known, known_to, fault_at, or_else, first_fault}
use Rattle.code_core.specs.prover.Passing.{Passing, joined, noted_to, or_this, noted}
use Rattle.code_core.proofs.Lists.{get_front, get_seam, get_set_same, get_set_other, drop_here}
use Rattle.code_core.proofs.Faultless.{fault_same, NoFault, no_fault, past_inside}
use Rattle.code_core.proofs.Known.{either, jump_height-append, known_inside, known_ahead, own_height, jumps_here, either_left, either_none, differs_either, left_le, greatest-append}

-- one place is below, at or past another
order : {P : Type 0} (a b : ℕ) → (a < b → P) → (a ≡ b → P) → (b < a → P) → P
order zero zero below at past = at refl
order zero (suc b) below at past = below (omega arith)
order (suc a) zero below at past = past (omega arith)
order (suc a) (suc b) below at past = order a b (λ h. below (omega arith)) (λ h. at (ap suc h))
    (λ h. past (omega arith))

pub length-noted : (hs : List (Option ℕ)) (t : Option ℕ) (h : ℕ) → length (noted hs t h) ≡ length hs
length-noted hs None h = refl
length-noted hs (Some l) h = length-set hs l (Some (or_this (joined (slice_get hs l)) h))

-- One instruction more is passed.
module _ (z : CodeSizes) (code : List Instr) (k : ℕ) (hs : List (Option ℕ)) (before : Option ℕ) (most : ℕ)
    (pass : Passing z code k hs before most)
    (i : Instr) (here : slice_get code k ≡ Some i) (came : Option ℕ) (there_held : slice_get hs k ≡ Some came) where
  inside : k < length code
  inside = slice_get_within code k i here

  came_is : came ≡ jump_height pass.passed (length pass.passed)
  came_is =
      same_Some _ _ (sym there_held ∙ pass.each k inside) ∙ known_ahead pass.passed k (omega (arith, pass.long))
      ∙ ap (jump_height pass.passed) (sym pass.long)

  abbrev h : ℕ
  h = height_by before (jump_height pass.passed (length pass.passed))

  abbrev more : List Placed
  more = pass.passed ++ (i, h) ∷ []

  abbrev next : List Placed
  next = placed_from (drop (k + 1) code) more (hands_on i h)

  length_more : length more ≡ k + 1
  length_more = length-append pass.passed ((i, h) ∷ []) ∙ ap (λ n. n + 1) pass.long

  told_more : first_fault z code [] (placed code)
      ≡ or_else (fault_at z code (length pass.passed) i h (jump_height pass.passed (length pass.passed))
      (known_to more (target i))) (first_fault z code more next)
  told_more = pass.told ∙ ap (λ is. first_fault z code pass.passed (placed_from is pass.passed before))
      (drop_here code k i here)

  abbrev own : List (Option ℕ)
  own = set hs k (Some h)

  -- what is known of places that were passed, this one among them
  own_passed : (q : ℕ) → q ≤ k → q < length code → slice_get own q ≡ Some (known more q)
  own_passed q upto there =
      ⊎_elim
      (λ same.
      ap (slice_get own) same ∙ get_set_same hs k (Some h) (omega (arith, pass.held))
      ∙ ap Some (sym (known_inside more q (omega (arith, length_more))
      ∙ ap (λ j. height_of (slice_get more j)) (same ∙ sym pass.long)
      ∙ ap height_of (get_seam pass.passed (i, h) []))))
      (λ below.
      get_set_other hs k q (Some h) (λ e. absurd (omega arith)) ∙ pass.each q there
      ∙ ap Some (known_inside pass.passed q (omega (arith, pass.long))
      ∙ ap height_of (sym (get_front pass.passed ((i, h) ∷ []) q (omega (arith, pass.long))))
      ∙ sym (known_inside more q (omega (arith, length_more)))))
      (eq-or-lt_of_le upto)

  -- and of places ahead
  own_ahead : (q : ℕ) → k < q → q < length code → slice_get own q ≡ Some (jump_height pass.passed q)
  own_ahead q past there =
      get_set_other hs k q (Some h) (λ e. absurd (omega arith)) ∙ pass.each q there
      ∙ ap Some (known_ahead pass.passed q (omega (arith, pass.long)))

  more_ahead : (q : ℕ) → k < q → known more q ≡ either (jump_height pass.passed q) (jump_height ((i, h) ∷ []) q)
  more_ahead q past = known_ahead more q (omega (arith, length_more)) ∙ jump_height-append pass.passed (i, h) q

  there_same : (t : Option ℕ) → t ≡ target i → is_past t (length code) ≡ false
      → differs (noted_to own t) (left i h) ≡ differs (known_to more t) (left i h)
  there_same None is within = refl
  there_same (Some l) is within =
      let there : l < length code = past_inside (Some l) l (length code) refl within in
      order l k
      (λ below. ap (λ o. differs (joined o) (left i h)) (own_passed l (omega arith) there))
      (λ at. ap (λ o. differs (joined o) (left i h)) (own_passed l (omega arith) there))
      (λ past.
      ap (λ o. differs (joined o) (left i h)) (own_ahead l past there)
      ∙ differs_either (jump_height pass.passed l) (left i h)
      ∙ ap (λ o. differs (either (jump_height pass.passed l) o) (left i h)) (sym (jumps_here i h l (sym is)))
      ∙ ap (λ o. differs o (left i h)) (sym (more_ahead l past)))

  fault_is : fault_at z code k i h came (noted_to own (target i))
      ≡ fault_at z code (length pass.passed) i h (jump_height pass.passed (length pass.passed))
      (known_to more (target i))
  fault_is =
      fault_same z code k i h came (noted_to own (target i)) (known_to more (target i)) (there_same (target i) refl)
      ∙ (λ j. fault_at z code (sym pass.long j) i h (came_is j) (known_to more (target i)))

  pub height_is : height_by before came ≡ h
  height_is = ap (height_by before) came_is

  pub fault_told : (fault : CodeFault) → fault_at z code k i (height_by before came) came
      (noted_to (set hs k (Some (height_by before came))) (target i)) ≡ Some fault
      → first_fault z code [] (placed code) ≡ Some fault
  fault_told fault is =
      told_more ∙ ap (λ f. or_else f (first_fault z code more next))
      (sym fault_is ∙ ap (λ g. fault_at z code k i g came (noted_to (set hs k (Some g)) (target i))) (sym height_is)
      ∙ is)

  height_low : h ≤ k
  height_low =
      subst (λ g. g ≤ k) height_is
      (elim before as (λ b. ((g : ℕ) → b ≡ Some g → g ≤ k) → height_by b came ≤ k) [
        | Some g ↦ λ low. low g refl
        | None ↦ λ low. elim came as (λ o. (o ≡ known pass.passed k) → height_by None o ≤ k) [
          | Some g ↦ λ e. pass.low k g inside (sym e)
          | None ↦ λ e. omega arith
        ] (same_Some _ _ (sym there_held ∙ pass.each k inside))
      ] pass.low_before)

  -- nothing is known yet of what the instruction leaves to where it jumps, or the same
  module _ (none : fault_at z code k i (height_by before came) came
      (noted_to (set hs k (Some (height_by before came))) (target i)) ≡ None) where
    passes : NoFault z code (length pass.passed) i h (jump_height pass.passed (length pass.passed))
        (known_to more (target i))
    passes =
        no_fault z code (length pass.passed) i h (jump_height pass.passed (length pass.passed))
        (known_to more (target i))
        (sym fault_is ∙ ap (λ g. fault_at z code k i g came (noted_to (set hs k (Some g)) (target i))) (sym height_is)
        ∙ none)

    -- the height of a place ahead to which it does not jump
    not_there : (l q : ℕ) → target i ≡ Some l → (q ≡ l → ⊥) → jump_height ((i, h) ∷ []) q ≡ None
    not_there l q to apart =
        ap (λ t. if jumps_to t q then Some (left i h) else None) to
        ∙ ap (λ b. if b then Some (left i h) else None) (ne_eqb l q (λ e. apart (sym e)))

    jumps_nowhere : (q : ℕ) → target i ≡ None → jump_height ((i, h) ∷ []) q ≡ None
    jumps_nowhere q to = ap (λ t. if jumps_to t q then Some (left i h) else None) to

    own_other : (q : ℕ) → q < length code → jump_height ((i, h) ∷ []) q ≡ None → slice_get own q ≡ Some (known more q)
    own_other q there away =
        order q k
        (λ below. own_passed q (omega arith) there)
        (λ at. own_passed q (omega arith) there)
        (λ past.
        own_ahead q past there ∙ ap Some
        (sym (either_none (jump_height pass.passed q)) ∙ ap (either (jump_height pass.passed q)) (sym away)
        ∙ sym (more_ahead q past)))

    noted_here : (l : ℕ) → target i ≡ Some l → l < length code → Some (or_this (joined (slice_get own l)) (left i h))
        ≡ known more l
    noted_here l to there =
        order l k
        (λ below. noted_passed l (omega arith) there)
        (λ at. noted_passed l (omega arith) there)
        (λ past.
        ap (λ o. Some (or_this (joined o) (left i h))) (own_ahead l past there)
        ∙ sym (either_left (jump_height pass.passed l) (left i h))
        ∙ ap (either (jump_height pass.passed l)) (sym (jumps_here i h l to)) ∙ sym (more_ahead l past))
      where
        noted_passed : (l : ℕ) → l ≤ k → l < length code → Some (or_this (joined (slice_get own l)) (left i h))
            ≡ known more l
        noted_passed l upto there =
            ap (λ o. Some (or_this (joined o) (left i h))) (own_passed l upto there)
            ∙ ap (λ o. Some (or_this o (left i h))) (known_inside more l (omega (arith, length_more)))
            ∙ own_height more l (left i h) (omega (arith, length_more))
            ∙ sym (known_inside more l (omega (arith, length_more)))

    each_more : (t : Option ℕ) → target i ≡ t → is_past t (length code) ≡ false
        → (q : ℕ) → q < length code → slice_get (noted own t (left i h)) q ≡ Some (known more q)
    each_more None to within q there = own_other q there (jumps_nowhere q to)
    each_more (Some l) to within q there =
        let target_inside : l < length code = past_inside (Some l) l (length code) refl within in
        ⊎_elim
        (λ same.
        ap (slice_get (noted own (Some l) (left i h))) same
        ∙ get_set_same own l (Some (or_this (joined (slice_get own l)) (left i h)))
        (omega (arith, length-set hs k (Some h), pass.held))
        ∙ ap Some (noted_here l to target_inside ∙ ap (known more) (sym same)))
        (λ apart.
        get_set_other own l q (Some (or_this (joined (slice_get own l)) (left i h))) apart
        ∙ own_other q there (not_there l q to apart))
        (cases_eq q l)

    low_jump : (q g : ℕ) → jump_height ((i, h) ∷ []) q ≡ Some g → g ≤ k + 1
    low_jump q g e = low_if (jumps_to (target i) q) e
      where
        low_if : (b : Bool) → (if b then Some (left i h) else None) ≡ Some g → g ≤ k + 1
        low_if true e = omega (arith, same_Some (left i h) g e, left_le i h, height_low)
        low_if false e = absurd (none-some g e)

    low_more : (q g : ℕ) → q < length code → known more q ≡ Some g → g ≤ k + 1
    low_more q g there e =
        order q k
        (λ below.
        let was : g ≤ k = pass.low q g there (known_inside pass.passed q (omega (arith, pass.long))
        ∙ ap height_of (sym (get_front pass.passed ((i, h) ∷ []) q (omega (arith, pass.long))))
        ∙ sym (known_inside more q (omega (arith, length_more))) ∙ e) in
        omega arith)
        (λ at.
        let is : h ≡ g = same_Some h g (sym (ap height_of (get_seam pass.passed (i, h) []))
        ∙ ap (λ j. height_of (slice_get more j)) (pass.long ∙ sym at)
        ∙ sym (known_inside more q (omega (arith, length_more))) ∙ e) in
        omega (arith, height_low))
        (λ past. low_either (jump_height pass.passed q)
        (λ f. pass.low q g there (known_ahead pass.passed q (omega (arith, pass.long)) ∙ f))
        (sym (more_ahead q past) ∙ e))
      where
        low_either : (x : Option ℕ) → (x ≡ Some g → g ≤ k) → either x (jump_height ((i, h) ∷ []) q) ≡ Some g → g ≤ k + 1
        low_either None was f = low_jump q g f
        low_either (Some y) was f = let low : g ≤ k = was f in omega arith

    low_hands : (g : ℕ) → hands_on i h ≡ Some g → g ≤ k + 1
    low_hands g e = low_if (goes_on i) e
      where
        low_if : (b : Bool) → (if b then Some (left i h) else None) ≡ Some g → g ≤ k + 1
        low_if true e = omega (arith, same_Some (left i h) g e, left_le i h, height_low)
        low_if false e = absurd (none-some g e)

    pass_more : Passing z code (k + 1) (noted own (target i) (left i h)) (hands_on i h) (max most h)
    pass_more = record {
      passed = more;
      long = length_more;
      whole =
          pass.whole ∙ ap (λ is. pass.passed ++ placed_from is pass.passed before) (drop_here code k i here)
          ∙ sym (append_assoc pass.passed ((i, h) ∷ []) next);
      told = told_more ∙ ap (λ f. or_else f (first_fault z code more next))
          (sym fault_is ∙ ap (λ g. fault_at z code k i g came (noted_to (set hs k (Some g)) (target i))) (sym height_is)
          ∙ none);
      held = length-noted own (target i) (left i h) ∙ length-set hs k (Some h) ∙ pass.held;
      each = each_more (target i) refl passes.inside;
      low = low_more;
      low_before = low_hands;
      greatest_is =
          ap greatest (map-append (λ e. e.1) pass.passed ((i, h) ∷ [])) ∙ greatest-append (map (λ e. e.1) pass.passed) h
          ∙ ap (λ m. max m h) pass.greatest_is;
    }

    pub pass_on : (g : ℕ) → g ≡ height_by before came
        → Passing z code (k + 1) (noted (set hs k (Some g)) (target i) (left i g)) (hands_on i g) (max most g)
    pass_on g is =
        subst (λ x. Passing z code (k + 1) (noted (set hs k (Some x)) (target i) (left i x)) (hands_on i x)
        (max most x)) (sym (is ∙ height_is)) pass_more

  pub height_below : height_by before came ≤ k
  height_below = subst (λ g. g ≤ k) (sym height_is) height_low

none_yet : (n q : ℕ) → get_or {A = Option ℕ} (replicate n None) q None ≡ None
none_yet zero q = refl
none_yet (suc n) zero = refl
none_yet (suc n) (suc q) = none_yet n q

-- no place was passed yet
pub pass_start : (z : CodeSizes) (code : List Instr) → Passing z code 0 (replicate (length code) None) (Some 0) 0
pass_start z code = record {
  passed = [];
  long = refl;
  whole = refl;
  told = refl;
  held = length-replicate (length code) None;
  each = λ q inside. slice_get-get_or (replicate (length code) None) q None
      (omega (arith, length-replicate {A = Option ℕ} (length code) None))
      ∙ ap Some (none_yet (length code) q ∙ sym (known_ahead [] q (omega arith)));
  low = λ q h inside e. absurd (none-some h (sym (known_ahead [] q (omega arith)) ∙ e));
  low_before = λ h e. omega (arith, same_Some 0 h e);
  greatest_is = refl;
}

-- all places were passed
pub pass_end : (z : CodeSizes) (code : List Instr) (k : ℕ) (hs : List (Option ℕ)) (before : Option ℕ) (most : ℕ)
    → Passing z code k hs before most → k ≡ length code
    → (first_fault z code [] (placed code) ≡ None) × (most ≡ greatest_height code)
pass_end z code k hs before most pass done =
    let over : drop k code ≡ [] = ap (λ j. drop j code) done ∙ drop-length code in (
      pass.told ∙ ap (λ is. first_fault z code pass.passed (placed_from is pass.passed before)) over,
      sym pass.greatest_is ∙ ap (λ es. greatest (map (λ e. e.1) es))
          (sym (pass.whole ∙ ap (λ is. pass.passed ++ placed_from is pass.passed before) over
          ∙ append-nil pass.passed)),
    )

pub passing_as : (z : CodeSizes) (code : List Instr) (k : ℕ) (hs hs' : List (Option ℕ)) (b b' : Option ℕ) (m m' : ℕ)
    → hs' ≡ hs → b' ≡ b → m' ≡ m → Passing z code k hs b m → Passing z code k hs' b' m'
passing_as z code k hs hs' b b' m m' heights before most pass =
    subst (λ x. Passing z code k hs' b' x) (sym most)
    (subst (λ x. Passing z code k hs' x m) (sym before)
    (subst (λ x. Passing z code k x b m) (sym heights) pass))
