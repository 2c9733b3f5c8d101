-- A code that is fine at each place has no fault, and `paired` gives its heights: `fine_verified`.
--
-- `passes` follows the pass that looks for faults, by induction on the instructions to come. It finds no
-- fault, and it gives each place the height that follows from the instruction before alone.
-- The difficulty is that the pass also looks at jumps. An earlier jump to a place may give it its height, and
-- all that reach a place must leave the same height. `Fine` asks of a jump that it leaves an empty stack, to
-- a place of height 0 that is not inside a stamp (`Jumps`, `Starts`). So what the pass finds of a jump is
-- always the height 0 (`jump_found`), and no height differs from it (`reached`, `reaches`).
-- Read `passes` first, then `jump_found`.
use Rattle.std.proofs.Common.{◌≡◌, ⊎_elim, ℕ, zero, suc, ◌+◌, ◌<◌, ◌≤◌, Bool, true, false, not, if◌then◌else◌, List, [], ◌∷◌, ◌++◌, refl, ap, ◌∙◌, sym, subst, length, arith, Option, Some, None, append_assoc}
use Rattle.std.specs.Prelude.{◌==◌, ◌&&◌, ◌||◌, nat_lt, slice_get, unwrap_or}
use Rattle.std.proofs.lemmas.Bool.{lt-ltb, le-ltb, eq-eqb, ne_eqb, cases_eq, cases_lt}
use Rattle.std.proofs.lemmas.List.{length-append}
use Rattle.std.proofs.lemmas.Option.{same_Some, none-some, slice_get_within}
use Rattle.code_core.specs.declared.instr.Instr.{Instr}
use Rattle.code_core.specs.declared.fault.CodeFault.{CodeFault}
use Rattle.code_core.specs.Instructions.{CodeSizes, pops, left, target, goes_on, fits}
use Rattle.code_core.specs.Heights.{Placed, jumps_to, jump_height, height_by, hands_on, placed, placed_from}
use Rattle.code_core.specs.Verified.{is_next, is_exchange, bad_stamp, differs, is_past, height_of, known_to, fault_at, or_else, first_fault, IsVerified}
use Rattle.code_core.proofs.Offered.{get_front, get_seam}
use Rattle.tick_lower.specs.prover.Paired.{after, paired}
use Rattle.tick_lower.proofs.Along.{Along, along_as}

-- A place to which jumps may go: its height is 0, and it is not inside a stamp.
pub record Starts (all : List Placed) (l : ℕ) : Type 0 where
  pub instr : Instr
  pub at : slice_get all l ≡ Some (instr, 0)
  pub apart : (is_next (Some instr) || is_exchange (Some instr)) ≡ false

-- The jump of an instruction leaves an empty stack to such a place.
abbrev pub Jumps : List Placed → Instr → ℕ → Type 0
Jumps all i h = (l : ℕ) → target i ≡ Some l → (left i h ≡ 0) × Starts all l

pub record Fine (z : CodeSizes) (code : List Instr) (all : List Placed) (k h : ℕ) (i : Instr) : Type 0 where
  pub slots : fits z i ≡ true
  pub enough : pops i ≤ h
  pub stamp : bad_stamp code k i ≡ false
  pub jumps : Jumps all i h

-- it is not the last, or it does not go on
abbrev pub Inside : List Instr → ℕ → ℕ → Instr → Type 0
Inside code k h i = (goes_on i && (k + 1 == length code)) ≡ false

-- at most the height 0
abbrev IsZero : Option ℕ → Type 0
IsZero j = (g : ℕ) → j ≡ Some g → g ≡ 0

differs_zero : (j : Option ℕ) (h : ℕ) → IsZero j → h ≡ 0 → differs j h ≡ false
differs_zero None h is empty = refl
differs_zero (Some g) h is empty = ap not (eq-eqb g h (is g refl ∙ sym empty))

-- What the instruction before hands on, with the jumps of before, is the height `h`.
abbrev Hands : Option ℕ → ℕ → Type 0
Hands before h = (j : Option ℕ) → IsZero j → height_by before j ≡ h

hands_after : (i : Instr) (h : ℕ) → Hands (hands_on i h) (after i h)
hands_after i h j is = by_test (goes_on i)
  where
    zero_by : (o : Option ℕ) → IsZero o → height_by None o ≡ 0
    zero_by None is = refl
    zero_by (Some g) is = is g refl

    by_test : (b : Bool) → height_by (if b then Some (left i h) else None) j ≡ unwrap_or (if b then Some (left i h) else None) 0
    by_test true = refl
    by_test false = zero_by j is

skip : (b : Bool) (x y : Option CodeFault) → b ≡ false → y ≡ None → (if b then x else y) ≡ None
skip b x y not_so none = ap (λ t. if t then x else y) not_so ∙ none

module _ (z : CodeSizes) (code : List Instr) (all : List Placed) where
  abbrev Jumped : List Placed → Type 0
  Jumped [] = Unit {0}
  Jumped (e ∷ es) = Jumps all e.0 e.1 × Jumped es

  jumped_more : (es : List Placed) (e : Placed) → Jumped es → Jumps all e.0 e.1 → Jumped (es ++ e ∷ [])
  jumped_more [] e jumped jumps = (jumps, tt)
  jumped_more (d ∷ es) e jumped jumps = (jumped.0, jumped_more es e jumped.1 jumps)

  found_at : (t : Option ℕ) (x q g : ℕ) (rest : Option ℕ) → ((l : ℕ) → t ≡ Some l → x ≡ 0 × Starts all l)
      → (rest ≡ Some g → g ≡ 0 × Starts all q) → (if jumps_to t q then Some x else rest) ≡ Some g → g ≡ 0 × Starts all q
  found_at None x q g rest jumps later is = later is
  found_at (Some l) x q g rest jumps later is =
      ⊎_elim
      (λ same.
      let found : x ≡ g = same_Some x g (sym (ap (λ b. if b then Some x else rest) (eq-eqb l q same)) ∙ is) in
      (sym found ∙ (jumps l refl).0, subst (Starts all) same (jumps l refl).1))
      (λ apart. later (sym (ap (λ b. if b then Some x else rest) (ne_eqb l q apart)) ∙ is))
      (cases_eq l q)

  jump_found : (es : List Placed) (q g : ℕ) → Jumped es → jump_height es q ≡ Some g → g ≡ 0 × Starts all q
  jump_found [] q g jumped is = absurd (none-some g is)
  jump_found (e ∷ es) q g jumped is =
      found_at (target e.0) (left e.0 e.1) q g (jump_height es q) jumped.0 (jump_found es q g jumped.1) is

  module _ (passed : List Placed) (i : Instr) (h : ℕ) (at : slice_get all (length passed) ≡ Some (i, h))
      (front : (l : ℕ) → l < length (passed ++ (i, h) ∷ []) → slice_get (passed ++ (i, h) ∷ []) l ≡ slice_get all l)
      (long : length all ≡ length code) (jumped : Jumped passed) (fine : Fine z code all (length passed) h i) where
    reached : differs (jump_height passed (length passed)) h ≡ false
    reached = by_jump (jump_height passed (length passed)) refl
      where
        by_jump : (j : Option ℕ) → jump_height passed (length passed) ≡ j → differs j h ≡ false
        by_jump None is = refl
        by_jump (Some g) is =
            let found : g ≡ 0 × Starts all (length passed) = jump_found passed (length passed) g jumped is in
            let start : (i, h) ≡ (found.1.instr, 0) = same_Some _ _ (sym at ∙ found.1.at) in
            ap not (eq-eqb g h (found.0 ∙ sym (ap (λ e. e.1) start)))

    inside : (t : Option ℕ) → t ≡ target i → is_past t (length code) ≡ false
    inside None is = refl
    inside (Some l) is =
        let start : Starts all l = (fine.jumps l (sym is)).1 in
        let below : l < length code = omega (arith, slice_get_within all l (start.instr, 0) start.at) in
        ap not (lt-ltb l (length code) below)

    reaches : (t : Option ℕ) → t ≡ target i → differs (known_to (passed ++ (i, h) ∷ []) t) (left i h) ≡ false
    reaches None is = refl
    reaches (Some l) is =
        let empty : left i h ≡ 0 = (fine.jumps l (sym is)).0 in
        let start : Starts all l = (fine.jumps l (sym is)).1 in
        let more : List Placed = passed ++ (i, h) ∷ [] in
        ⊎_elim
        (λ below.
        ap (λ b. differs (if b then height_of (slice_get more l) else jump_height more l) (left i h)) (lt-ltb l (length more) below)
        ∙ ap (λ o. differs (height_of o) (left i h)) (front l below ∙ start.at)
        ∙ differs_zero (Some 0) (left i h) (λ g e. sym (same_Some 0 g e)) empty)
        (λ ahead.
        ap (λ b. differs (if b then height_of (slice_get more l) else jump_height more l) (left i h)) (le-ltb l (length more) ahead)
        ∙ differs_zero (jump_height more l) (left i h) (λ g e. (jump_found more l g (jumped_more passed (i, h) jumped fine.jumps) e).0) empty)
        (cases_lt l (length more))

    pub no_fault : Inside code (length passed) h i
        → fault_at z code (length passed) i h (jump_height passed (length passed)) (known_to (passed ++ (i, h) ∷ []) (target i)) ≡ None
    no_fault goes =
        skip _ _ _ reached
        (skip _ _ _ (ap not fine.slots)
        (skip _ _ _ (inside (target i) refl)
        (skip _ _ _ (le-ltb h (pops i) fine.enough)
        (skip _ _ _ fine.stamp
        (skip _ _ _ (reaches (target i) refl)
        (skip _ _ _ goes refl))))))

or_none : (a b : Option CodeFault) → a ≡ None → b ≡ None → or_else a b ≡ None
or_none a b first then_none = ap (λ o. or_else o b) first ∙ then_none

-- the pairs of a code are its instructions, in order
pub paired_long : (is : List Instr) (h : ℕ) → length (paired h is) ≡ length is
paired_long [] h = refl
paired_long (i ∷ is) h = ap suc (paired_long is (after i h))

pub paired_get : (is : List Instr) (h k : ℕ) (i : Instr) (g : ℕ) → slice_get (paired h is) k ≡ Some (i, g) → slice_get is k ≡ Some i
paired_get [] h k i g at = absurd (none-some (i, g) at)
paired_get (j ∷ is) h zero i g at = ap (λ e. Some e.0) (same_Some (j, h) (i, g) at)
paired_get (j ∷ is) h (suc k) i g at = paired_get is (after j h) k i g at

module _ (z : CodeSizes) (code : List Instr) where
  abbrev all : List Placed
  all = paired 0 code

  -- the pass finds nothing, and gives the places these heights
  passes : (is : List Instr) (passed : List Placed) (h : ℕ) (before : Option ℕ) → passed ++ paired h is ≡ all
      → Jumped z code all passed → Hands before h
      → Along (Fine z code all) (length passed) h is → Along (Inside code) (length passed) h is
      → (first_fault z code passed (placed_from is passed before) ≡ None) × (placed_from is passed before ≡ paired h is)
  passes [] passed h before whole jumped hands fine inside = (refl, refl)
  passes (i ∷ is) passed h before whole jumped hands fine inside =
      let none_or_zero : (g : ℕ) → jump_height passed (length passed) ≡ Some g → g ≡ 0 =
      λ g e. (jump_found z code all passed (length passed) g jumped e).0 in
      let height : height_by before (jump_height passed (length passed)) ≡ h = hands (jump_height passed (length passed)) none_or_zero in
      let more : List Placed = passed ++ (i, h) ∷ [] in
      let longer : length passed + 1 ≡ length more = sym (length-append passed ((i, h) ∷ [])) in
      let all_more : more ++ paired (after i h) is ≡ all = append_assoc passed ((i, h) ∷ []) (paired (after i h) is) ∙ whole in
      let at : slice_get all (length passed) ≡ Some (i, h) =
      ap (λ l. slice_get l (length passed)) (sym whole) ∙ get_seam passed (i, h) (paired (after i h) is) in
      let front : (l : ℕ) → l < length more → slice_get more l ≡ slice_get all l =
      λ l below. sym (get_front more (paired (after i h) is) l below) ∙ ap (λ es. slice_get es l) all_more in
      let rest = passes is more (after i h) (hands_on i h) all_more (jumped_more z code all passed (i, h) jumped fine.0.jumps) (hands_after i h)
      (along_as (Fine z code all) _ _ _ _ is longer refl fine.1) (along_as (Inside code) _ _ _ _ is longer refl inside.1) in
      let these : ℕ → List Placed = λ g. (i, g) ∷ placed_from is (passed ++ (i, g) ∷ []) (hands_on i g) in
      subst (λ g. (first_fault z code passed (these g) ≡ None) × (these g ≡ paired h (i ∷ is))) (sym height) (
        or_none _ _ (no_fault z code all passed i h at front (paired_long code 0) jumped fine.0 inside.0) rest.0,
        ap (λ es. (i, h) ∷ es) rest.1,
      )

  pub fine_verified : Along (Fine z code all) 0 0 code → Along (Inside code) 0 0 code → 0 < length code → length code ≤ 65535
      → IsVerified z code × (placed code ≡ paired 0 code)
  fine_verified fine inside some few =
      let passed = passes code [] 0 (Some 0) refl tt (λ j is. refl) fine inside in (
        skip (length code == 0) _ _ (ne_eqb (length code) 0 (λ e. absurd (omega arith)))
            (skip (nat_lt 65535 (length code)) _ _ (le-ltb 65535 (length code) few) passed.0),
        passed.1,
      )
