-- What is known of the height of a place, once one instruction more was passed.
use Rattle.std.proofs.Common.{◌≡◌, ℕ, zero, suc, ◌+◌, ◌<◌, ◌≤◌, max, Bool, true, false, not, if◌then◌else◌, List, [], ◌∷◌, ◌++◌, refl, ap, ◌∙◌, sym, length, arith, Option, Some, None}
use Rattle.std.specs.Prelude.{slice_get}
use Rattle.std.proofs.lemmas.Bool.{lt-ltb, le-ltb, eq-eqb}
use Rattle.code_core.specs.declared.instr.Instr.{Instr}
use Rattle.code_core.specs.declared.instr.Instr.TheVariants as I
use Rattle.code_core.specs.Instructions.{pushes, left, target}
use Rattle.code_core.specs.Heights.{Placed, jumps_to, jump_height, greatest}
use Rattle.code_core.specs.Verified.{differs, height_of, known}
use Rattle.code_core.specs.prover.Passing.{or_this}

abbrev pub either : Option ℕ → Option ℕ → Option ℕ
either None y = y
either (Some x) y = Some x

if_either : (b : Bool) (x : ℕ) (r s y : Option ℕ) → r ≡ either s y → (if b then Some x else r) ≡ either (if b then Some x else s) y
if_either true x r s y same = refl
if_either false x r s y same = same

pub jump_height-append : (es : List Placed) (e : Placed) (q : ℕ) → jump_height (es ++ e ∷ []) q ≡ either (jump_height es q) (jump_height (e ∷ []) q)
jump_height-append [] e q = refl
jump_height-append (a ∷ es) e q =
    if_either (jumps_to (target a.0) q) (left a.0 a.1) (jump_height (es ++ e ∷ []) q) (jump_height es q) (jump_height (e ∷ []) q) (jump_height-append es e q)

pub known_inside : (ps : List Placed) (q : ℕ) → q < length ps → known ps q ≡ height_of (slice_get ps q)
known_inside ps q inside = ap (λ b. if b then height_of (slice_get ps q) else jump_height ps q) (lt-ltb q (length ps) inside)

pub known_ahead : (ps : List Placed) (q : ℕ) → length ps ≤ q → known ps q ≡ jump_height ps q
known_ahead ps q ahead = ap (λ b. if b then height_of (slice_get ps q) else jump_height ps q) (le-ltb q (length ps) ahead)

-- the own height of a place is known
pub own_height : (ps : List Placed) (q h : ℕ) → q < length ps → Some (or_this (height_of (slice_get ps q)) h) ≡ height_of (slice_get ps q)
own_height [] q h inside = absurd (omega arith)
own_height (p ∷ ps) zero h inside = refl
own_height (p ∷ ps) (suc q) h inside = own_height ps q h (omega arith)

-- an instruction that jumps to a place, and one that does not
pub jumps_here : (i : Instr) (h q : ℕ) → target i ≡ Some q → jump_height ((i, h) ∷ []) q ≡ Some (left i h)
jumps_here i h q to =
    ap (λ t. if jumps_to t q then Some (left i h) else None) to ∙ ap (λ b. if b then Some (left i h) else None) (eq-eqb q q refl)

pub either_left : (x : Option ℕ) (h : ℕ) → either x (Some h) ≡ Some (or_this x h)
either_left None h = refl
either_left (Some g) h = refl

pub either_none : (x : Option ℕ) → either x None ≡ x
either_none None = refl
either_none (Some g) = refl

pub differs_either : (x : Option ℕ) (h : ℕ) → differs x h ≡ differs (either x (Some h)) h
differs_either None h = ap not (sym (eq-eqb h h refl))
differs_either (Some g) h = refl

pushes_le : (i : Instr) → pushes i ≤ 1
pushes_le (I.Push v) = omega arith
pushes_le (I.Load x) = omega arith
pushes_le I.Me = omega arith
pushes_le I.Count = omega arith
pushes_le (I.Bin op) = omega arith
pushes_le _ = omega arith

pub left_le : (i : Instr) (h : ℕ) → left i h ≤ h + 1
left_le i h = omega (arith, pushes_le i)

pub greatest-append : (hs : List ℕ) (h : ℕ) → greatest (hs ++ h ∷ []) ≡ max (greatest hs) h
greatest-append [] h = omega arith
greatest-append (g ∷ hs) h = ap (max g) (greatest-append hs h) ∙ omega arith
