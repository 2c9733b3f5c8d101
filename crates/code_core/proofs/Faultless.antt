-- The tests of an instruction.
use Rattle.std.proofs.Common.{◌≡◌, ℕ, ◌+◌, ◌<◌, Bool, true, false, not, if◌then◌else◌, List, refl, ap, ◌∙◌, sym, length, Option, Some, None}
use Rattle.std.specs.Prelude.{◌==◌, ◌&&◌, nat_lt}
use Rattle.std.proofs.lemmas.Bool.{ltb-true, not-false}
use Rattle.std.proofs.lemmas.Option.{none-some}
use Rattle.code_core.specs.declared.instr.Instr.{Instr}
use Rattle.code_core.specs.declared.fault.CodeFault.{CodeFault}
use Rattle.code_core.specs.declared.fault.CodeFault.TheVariants as F
use Rattle.code_core.specs.Instructions.{CodeSizes, pops, left, target, goes_on, fits}
use Rattle.code_core.specs.Verified.{bad_stamp, differs, is_past, fault_at}

if_same : {X : Type 0} (b : Bool) (x y y' : X) → (b ≡ false → y ≡ y') → (if b then x else y) ≡ (if b then x else y')
if_same true x y y' same = refl
if_same false x y y' same = same refl

-- what is known of the place to which it jumps is asked only where there is such a place
pub fault_same : (z : CodeSizes) (code : List Instr) (k : ℕ) (i : Instr) (h : ℕ) (came there there' : Option ℕ)
    → (is_past (target i) (length code) ≡ false → differs there (left i h) ≡ differs there' (left i h))
    → fault_at z code k i h came there ≡ fault_at z code k i h came there'
fault_same z code k i h came there there' same =
    if_same (differs came h) _ _ _ (λ _. if_same (not (fits z i)) _ _ _ (λ _. if_same (is_past (target i) (length code)) _ _ _ (λ e.
    if_same (nat_lt h (pops i)) _ _ _ (λ _. if_same (bad_stamp code k i) _ _ _ (λ _.
    ap (λ b. if b then Some (F.HeightsDiffer k) else if goes_on i && (k + 1 == length code) then Some (F.FallsOff k) else None) (same e))))))

-- all seven are passed
pub record NoFault (z : CodeSizes) (code : List Instr) (k : ℕ) (i : Instr) (h : ℕ) (came there : Option ℕ) : Type 0 where
  pub reached : differs came h ≡ false
  pub slots : fits z i ≡ true
  pub inside : is_past (target i) (length code) ≡ false
  pub enough : nat_lt h (pops i) ≡ false
  pub stamp : bad_stamp code k i ≡ false
  pub reaches : differs there (left i h) ≡ false
  pub goes : (goes_on i && (k + 1 == length code)) ≡ false

record Seven (a b c d e f g : Bool) : Type 0 where
  first : a ≡ false
  second : b ≡ true
  third : c ≡ false
  fourth : d ≡ false
  fifth : e ≡ false
  sixth : f ≡ false
  seventh : g ≡ false

seven : (u v w x y l : CodeFault) (a b c d e f g : Bool)
    → (if a then Some u else if not b then Some v else if c then Some w else if d then Some x else if e then Some y else if f then Some u else if g then Some l else None) ≡ None
    → Seven a b c d e f g
seven u v w x y l true b c d e f g none = absurd (none-some u (sym none))
seven u v w x y l false false c d e f g none = absurd (none-some v (sym none))
seven u v w x y l false true true d e f g none = absurd (none-some w (sym none))
seven u v w x y l false true false true e f g none = absurd (none-some x (sym none))
seven u v w x y l false true false false true f g none = absurd (none-some y (sym none))
seven u v w x y l false true false false false true g none = absurd (none-some u (sym none))
seven u v w x y l false true false false false false true none = absurd (none-some l (sym none))
seven u v w x y l false true false false false false false none = record { first = refl; second = refl; third = refl; fourth = refl; fifth = refl; sixth = refl; seventh = refl }

pub no_fault : (z : CodeSizes) (code : List Instr) (k : ℕ) (i : Instr) (h : ℕ) (came there : Option ℕ)
    → fault_at z code k i h came there ≡ None → NoFault z code k i h came there
no_fault z code k i h came there none =
    let s = seven (F.HeightsDiffer k) (F.BadSlot k) (F.BadJump k) (F.StackShort k) (F.BadStamp k) (F.FallsOff k)
    (differs came h) (fits z i) (is_past (target i) (length code)) (nat_lt h (pops i)) (bad_stamp code k i) (differs there (left i h)) (goes_on i && (k + 1 == length code)) none in
    record { reached = s.first; slots = s.second; inside = s.third; enough = s.fourth; stamp = s.fifth; reaches = s.sixth; goes = s.seventh }

pub past_inside : (t : Option ℕ) (l end : ℕ) → t ≡ Some l → is_past t end ≡ false → l < end
past_inside t l end to inside = ltb-true l end (not-false (nat_lt l end) (sym (ap (λ o. is_past o end) to) ∙ inside))
