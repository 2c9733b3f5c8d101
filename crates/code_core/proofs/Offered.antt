-- What the crates above may cite: what holds at every place of a verified code, and of lists read at places.
use Rattle.std.proofs.Common.{◌≡◌, ⊎_elim, ℕ, zero, suc, ◌+◌, ◌<◌, ◌≤◌, Bool, true, false, if◌then◌else◌, List, [], ◌∷◌, refl, ap, ◌∙◌, sym, length, map, arith, Option, Some, None}
use Rattle.std.specs.Prelude.{◌==◌, ◌&&◌, nat_lt, slice_get, slice_index}
use Rattle.std.proofs.lemmas.Bool.{eq-eqb, ltb-false}
use Rattle.std.proofs.lemmas.List.{length-map}
use Rattle.std.proofs.lemmas.Option.{same_Some, none-some}
use Rattle.code_core.specs.declared.instr.Instr.{Instr}
use Rattle.code_core.specs.declared.fault.CodeFault.{CodeFault}
use Rattle.code_core.specs.declared.fault.CodeFault.TheVariants as F
use Rattle.code_core.specs.Instructions.{CodeSizes, pops, left, target, goes_on, fits}
use Rattle.code_core.specs.Heights.{Placed, placed, heights, height_at, greatest_height}
use Rattle.code_core.specs.Verified.{bad_stamp, height_of, first_fault, IsVerified}
use Rattle.code_core.proofs.Known.{known_inside}
use Rattle.code_core.proofs.Faultless.{past_inside}
use Rattle.code_core.proofs.Kept.{KeptAt, KeptAll, kept_all, placed_from_code, greatest_of}
pub use Rattle.code_core.proofs.Lists.{get_front, get_seam, get-snoc, get-set, get-replicate}

-- what holds of the instruction at a place
pub record IsFineAt (z : CodeSizes) (code : List Instr) (k : ℕ) (i : Instr) : Type 0 where
  pub slots : fits z i ≡ true
  pub enough : pops i ≤ height_at code k
  pub stamp : bad_stamp code k i ≡ false
  pub on : goes_on i ≡ true → (k + 1 < length code) × (height_at code (k + 1) ≡ left i (height_at code k))
  pub to : (l : ℕ) → target i ≡ Some l → (l < length code) × (height_at code l ≡ left i (height_at code k))

pub record IsFine (z : CodeSizes) (code : List Instr) : Type 0 where
  pub some : 0 < length code
  pub few : length code ≤ 65535
  pub start : height_at code 0 ≡ 0
  pub each : (k : ℕ) (i : Instr) → slice_get code k ≡ Some i → IsFineAt z code k i
  pub highest : (k : ℕ) → height_at code k ≤ greatest_height code

length_placed : (code : List Instr) → length (placed code) ≡ length code
length_placed code = sym (length-map (placed code) (λ e. e.0)) ∙ ap length (placed_from_code code [] (Some 0))

-- a place of the code, with its height
with_height : (all : List Placed) (k : ℕ) (i : Instr) → slice_get (map (λ e. e.0) all) k ≡ Some i → slice_get all k ≡ Some (i, slice_index (map (λ e. e.1) all) k)
with_height [] k i here = absurd (none-some i here)
with_height (e ∷ all) zero i here = ap (λ x. Some (x, e.1)) (same_Some e.0 i here)
with_height (e ∷ all) (suc k) i here = with_height all k i here

height_known : (all : List Placed) (k h : ℕ) → height_of (slice_get all k) ≡ Some h → (k < length all) × (slice_index (map (λ e. e.1) all) k ≡ h)
height_known [] k h is = absurd (none-some h is)
height_known (e ∷ all) zero h is = (omega arith, same_Some e.1 h is)
height_known (e ∷ all) (suc k) h is = let rest = height_known all k h is in (omega (arith, rest.0), rest.1)

fine_at : (z : CodeSizes) (code : List Instr) (kept : KeptAll z code (placed code)) (k : ℕ) (i : Instr) → slice_get code k ≡ Some i → IsFineAt z code k i
fine_at z code kept k i here =
    let all = placed code in
    let at : KeptAt z code all kept.before k (i, height_at code k) =
    kept.each k (i, height_at code k) (with_height all k i (ap (λ is. slice_get is k) (placed_from_code code [] (Some 0)) ∙ here)) in
    record {
      slots = at.alone.slots;
      enough = at.alone.enough;
      stamp = at.alone.stamp;
      on = λ goes.
          ⊎_elim
          (λ next. let there = height_known all (k + 1) (left i (height_at code k)) next in (omega (arith, there.0, length_placed code), there.1))
          (λ last. absurd (goes_past goes (last.0 ∙ length_placed code) at.alone.last))
          (at.on goes);
      to = λ l to.
          let within : l < length code = past_inside (target i) l (length code) to at.alone.inside in
          let there = height_known all l (left i (height_at code k)) (sym (known_inside all l (omega (arith, length_placed code))) ∙ at.to l to) in
          (within, there.1);
    }
  where
    goes_past : goes_on i ≡ true → k + 1 ≡ length code → (goes_on i && (k + 1 == length code)) ≡ false → ⊥
    goes_past goes last falls =
        true_not_false (sym ((λ j. goes j && (k + 1 == length code)) ∙ eq-eqb (k + 1) (length code) last) ∙ falls)
      where
        true_not_false : true ≡ false → ⊥
        true_not_false e = (cc)

test_none : (b : Bool) (x : CodeFault) (rest : Option CodeFault) → (if b then Some x else rest) ≡ None → (b ≡ false) × (rest ≡ None)
test_none true x rest none = absurd (none-some x (sym none))
test_none false x rest none = (refl, none)

pub verified_fine : (z : CodeSizes) (code : List Instr) → IsVerified z code → IsFine z code
verified_fine z [] verified = absurd (none-some _ (sym verified))
verified_fine z (i ∷ is) verified =
    let code = i ∷ is in
    let long : (if nat_lt 65535 (length code) then Some F.TooLong else first_fault z code [] (placed code)) ≡ None = (test_none (length code == 0) F.Empty _ verified).1 in
    let none = test_none (nat_lt 65535 (length code)) F.TooLong (first_fault z code [] (placed code)) long in
    let kept = kept_all z code code [] (Some 0) (λ j e here. absurd (none-some e here)) none.1 in
    record {
      some = omega arith;
      few = ltb-false 65535 (length code) none.0;
      start = refl;
      each = fine_at z code kept;
      highest = λ k. greatest_of (heights code) k;
    }
