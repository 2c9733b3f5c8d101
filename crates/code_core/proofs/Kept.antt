-- What a pass that finds no fault has seen of every place: `kept_all`, by induction on the instructions.
--
-- The invariant is `Kept`: each place that was passed has what `KeptAt` lists. Its slots and operands are
-- there, its stamp is whole, and it leaves the height that is known of the next place and of the place it
-- jumps to. `kept_more` adds one place, at which none of the seven tests found a fault (`NoFault`).
-- The difficulty is a jump ahead. The place it goes to was not passed yet, so only what the first jump to it
-- left is known of its height. `known_more` shows that this stays true when the place is passed: one of the
-- tests compares its own height with what the jump left.
-- Read `KeptAt` first, then `known_more`.
use Rattle.std.proofs.Common.{◌≡◌, ◌⊎◌, inl, inr, ⊎_elim, ℕ, zero, suc, ◌+◌, ◌<◌, ◌≤◌, true, false, if◌then◌else◌, List, [], ◌∷◌, ◌++◌, refl, ap, ◌∙◌, sym, subst, length, map, arith, Option, Some, None, append_assoc}
use Rattle.std.specs.Prelude.{◌==◌, ◌&&◌, slice_get, slice_index}
use Rattle.std.proofs.lemmas.Bool.{cases_lt, ltb-false, eqb-true, not-false}
use Rattle.std.proofs.lemmas.List.{append-nil, length-append}
use Rattle.std.proofs.lemmas.Option.{none-some}
use Rattle.std.proofs.Math.Nat.{eq-or-lt_of_le}
use Rattle.code_core.specs.declared.instr.Instr.{Instr}
use Rattle.code_core.specs.declared.fault.CodeFault.{CodeFault}
use Rattle.code_core.specs.Instructions.{CodeSizes, pops, left, target, goes_on, fits}
use Rattle.code_core.specs.Heights.{Placed, jump_height, height_by, hands_on, placed_from, greatest}
use Rattle.code_core.specs.Verified.{bad_stamp, differs, is_past, height_of, known, known_to, or_else, first_fault}
use Rattle.code_core.proofs.Lists.{get_front, get_seam, get-snoc}
use Rattle.code_core.proofs.Faultless.{NoFault, no_fault}
use Rattle.code_core.proofs.Known.{either, jump_height-append, known_inside, known_ahead, jumps_here, either_left}

-- it goes on to the next of these places, or hands its height on past the last
abbrev pub GoesOn : List Placed → Option ℕ → ℕ → ℕ → Type 0
GoesOn passed before j h = (height_of (slice_get passed (j + 1)) ≡ Some h) ⊎ ((j + 1 ≡ length passed) × (before ≡ Some h))

-- what is kept of one place by itself
pub record KeptAlone (z : CodeSizes) (code : List Instr) (j : ℕ) (e : Placed) : Type 0 where
  pub slots : fits z e.0 ≡ true
  pub enough : pops e.0 ≤ e.1
  pub stamp : bad_stamp code j e.0 ≡ false
  pub inside : is_past (target e.0) (length code) ≡ false
  pub last : (goes_on e.0 && (j + 1 == length code)) ≡ false

-- and beside the places to which it goes
pub record KeptAt (z : CodeSizes) (code : List Instr) (passed : List Placed) (before : Option ℕ) (j : ℕ) (e : Placed) : Type 0 where
  pub alone : KeptAlone z code j e
  pub on : goes_on e.0 ≡ true → GoesOn passed before j (left e.0 e.1)
  pub to : (l : ℕ) → target e.0 ≡ Some l → known passed l ≡ Some (left e.0 e.1)

abbrev pub Kept : CodeSizes → List Instr → List Placed → Option ℕ → Type 0
Kept z code passed before = (j : ℕ) (e : Placed) → slice_get passed j ≡ Some e → KeptAt z code passed before j e

same_height : (o : Option ℕ) (g h : ℕ) → o ≡ Some g → differs o h ≡ false → g ≡ h
same_height o g h is same = eqb-true g h (not-false (g == h) (sym (ap (λ x. differs x h) is) ∙ same))

first_none : (a b : Option CodeFault) → or_else a b ≡ None → a ≡ None
first_none None b none = refl
first_none (Some x) b none = none

rest_none : (a b : Option CodeFault) → or_else a b ≡ None → b ≡ None
rest_none None b none = none
rest_none (Some x) b none = absurd (none-some x (sym none))

either_some : (x y : Option ℕ) (g : ℕ) → x ≡ Some g → either x y ≡ Some g
either_some x y g is = ap (λ o. either o y) is

-- One place more, without a fault.
module _ (z : CodeSizes) (code : List Instr) (passed : List Placed) (before : Option ℕ) (kept : Kept z code passed before) (i : Instr) where
  abbrev h : ℕ
  h = height_by before (jump_height passed (length passed))

  abbrev more : List Placed
  more = passed ++ (i, h) ∷ []

  length_more : length more ≡ length passed + 1
  length_more = length-append passed ((i, h) ∷ [])

  own : height_of (slice_get more (length passed)) ≡ Some h
  own = ap height_of (get_seam passed (i, h) [])

  module _ (clear : NoFault z code (length passed) i h (jump_height passed (length passed)) (known_to more (target i))) where
    -- what was known stays known
    known_more : (l g : ℕ) → known passed l ≡ Some g → known more l ≡ Some g
    known_more l g is =
        ⊎_elim
        (λ below. known_inside more l (omega (arith, length_more)) ∙ ap height_of (get_front passed ((i, h) ∷ []) l below) ∙ sym (known_inside passed l below) ∙ is)
        (λ upto.
        let came : jump_height passed l ≡ Some g = sym (known_ahead passed l upto) ∙ is in
        ⊎_elim
        (λ same.
        let there : l ≡ length passed = sym same in
        known_inside more l (omega (arith, length_more)) ∙ ap (λ q. height_of (slice_get more q)) there ∙ own
        ∙ ap Some (sym (same_height (jump_height passed (length passed)) g h (ap (jump_height passed) (sym there) ∙ came) clear.reached)))
        (λ past. known_ahead more l (omega (arith, length_more)) ∙ jump_height-append passed (i, h) l ∙ either_some (jump_height passed l) _ g came)
        (eq-or-lt_of_le upto))
        (cases_lt l (length passed))

    on_more : (j g : ℕ) → GoesOn passed before j g → GoesOn more (hands_on i h) j g
    on_more j g =
        ⊎_elim
        (λ next. inl (height_more (j + 1) g next))
        (λ last. inl (ap (λ q. height_of (slice_get more q)) last.0 ∙ own ∙ ap (λ b. Some (height_by b (jump_height passed (length passed)))) last.1))
      where
        height_more : (q g : ℕ) → height_of (slice_get passed q) ≡ Some g → height_of (slice_get more q) ≡ Some g
        height_more q g is = height_front passed q g is
          where
            height_front : (ps : List Placed) (q g : ℕ) → height_of (slice_get ps q) ≡ Some g → height_of (slice_get (ps ++ (i, h) ∷ []) q) ≡ Some g
            height_front [] q g is = absurd (none-some g is)
            height_front (p ∷ ps) zero g is = is
            height_front (p ∷ ps) (suc q) g is = height_front ps q g is

    known_target : (l : ℕ) → target i ≡ Some l → known more l ≡ Some (left i h)
    known_target l to =
        ⊎_elim
        (λ below. known_inside more l below ∙ found_same (height_of (slice_get more l)) (sym (known_inside more l below)) (height_there more l below))
        (λ upto.
        let jumped : known more l ≡ either (jump_height passed l) (Some (left i h)) =
        known_ahead more l upto ∙ jump_height-append passed (i, h) l ∙ ap (either (jump_height passed l)) (jumps_here i h l to) in
        jumped ∙ either_left (jump_height passed l) (left i h)
        ∙ ap Some (same_height (known_to more (target i)) _ (left i h) (ap (known_to more) to ∙ jumped ∙ either_left (jump_height passed l) (left i h)) clear.reaches))
        (cases_lt l (length more))
      where
        height_there : (ps : List Placed) (q : ℕ) → q < length ps → (g : ℕ) × (height_of (slice_get ps q) ≡ Some g)
        height_there [] q inside = absurd (omega arith)
        height_there (p ∷ ps) zero inside = (p.1, refl)
        height_there (p ∷ ps) (suc q) inside = height_there ps q (omega arith)

        found_same : (o : Option ℕ) → o ≡ known more l → (g : ℕ) × (o ≡ Some g) → o ≡ Some (left i h)
        found_same o is found =
            found.1 ∙ ap Some (same_height (known_to more (target i)) found.0 (left i h) (ap (known_to more) to ∙ sym is ∙ found.1) clear.reaches)

    pub kept_more : Kept z code more (hands_on i h)
    kept_more j e here =
        ⊎_elim
        (λ old.
        let was : KeptAt z code passed before j e = kept j e old in
        record {
          alone = was.alone;
          on = λ goes. on_more j (left e.0 e.1) (was.on goes);
          to = λ l to. known_more l (left e.0 e.1) (was.to l to);
        })
        (λ new.
        subst (λ p. KeptAt z code more (hands_on i h) j p) new.1
        (subst (λ q. KeptAt z code more (hands_on i h) q (i, h)) (sym new.0)
        record {
          alone = record { slots = clear.slots; enough = ltb-false h (pops i) clear.enough; stamp = clear.stamp; inside = clear.inside; last = clear.goes };
          on = λ goes. inr (sym length_more, ap (λ b. if b then Some (left i h) else None) goes);
          to = known_target;
        }))
        (get-snoc passed (i, h) j e here)

-- what is kept of all places
pub record KeptAll (z : CodeSizes) (code : List Instr) (all : List Placed) : Type 0 where
  pub before : Option ℕ
  pub each : Kept z code all before

pub kept_all : (z : CodeSizes) (code is : List Instr) (passed : List Placed) (before : Option ℕ) → Kept z code passed before
    → first_fault z code passed (placed_from is passed before) ≡ None → KeptAll z code (passed ++ placed_from is passed before)
kept_all z code [] passed before kept none = record { before = before; each = subst (λ ps. Kept z code ps before) (sym (append-nil passed)) kept }
kept_all z code (i ∷ is) passed before kept none =
    let h = height_by before (jump_height passed (length passed)) in
    let more = passed ++ (i, h) ∷ [] in
    let clear = no_fault z code (length passed) i h (jump_height passed (length passed)) (known_to more (target i)) (first_none _ _ none) in
    subst (KeptAll z code) (append_assoc passed ((i, h) ∷ []) (placed_from is more (hands_on i h)))
    (kept_all z code is more (hands_on i h) (kept_more z code passed before kept i clear) (rest_none _ _ none))

pub placed_from_code : (is : List Instr) (passed : List Placed) (before : Option ℕ) → map (λ e. e.0) (placed_from is passed before) ≡ is
placed_from_code [] passed before = refl
placed_from_code (i ∷ is) passed before =
    ap (λ xs. i ∷ xs) (placed_from_code is (passed ++ (i, height_by before (jump_height passed (length passed))) ∷ []) (hands_on i (height_by before (jump_height passed (length passed)))))

pub greatest_of : (hs : List ℕ) (k : ℕ) → slice_index hs k ≤ greatest hs
greatest_of [] k = omega arith
greatest_of (h ∷ hs) zero = omega arith
greatest_of (h ∷ hs) (suc k) = omega (arith, greatest_of hs k)
