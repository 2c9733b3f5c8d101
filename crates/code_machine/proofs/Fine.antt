-- What a process finds at the places of a verified code (`Places`).
-- The idea. `IsFine` says of each place what the verifier tests there. Most fields of `Places` are parts of it. An exchange
-- needs more: right before it stands a `Next` (`exchange_is`), and right before that the load to which it goes back
-- (`load_before`). So its stamp stands at three places, one after the other, and the height is the same at the load and at
-- the exchange (`back_height_is`).
-- Read `Places` first, then `back_is`.
use Rattle.std.proofs.Common.{◌≡◌, ℕ, zero, suc, ◌+◌, ◌-◌, ◌<◌, ◌≤◌, Bool, true, false, List, length, Option, Some, None, refl, ap, ◌∙◌, sym, subst, arith, add-one}
use Rattle.std.specs.Prelude.{◌==◌, ◌&&◌, ◌||◌, slice_get}
use Rattle.std.proofs.lemmas.Bool.{both_ways, not-false, eqb-true}
use Rattle.std.proofs.lemmas.Option.{same_Some, none-some}
use Rattle.code_core.specs.declared.instr.Instr.{Instr}
use Rattle.code_core.specs.declared.instr.Instr.TheVariants as I
use Rattle.code_core.specs.Instructions.{CodeSizes, pops, left, target, goes_on, fits}
use Rattle.code_core.specs.Heights.{height_at}
use Rattle.code_core.specs.Verified.{is_load, is_next, is_exchange, IsVerified}
use Rattle.code_core.proofs.Offered.{IsFine, verified_fine}

pub record Places (sizes : CodeSizes) (code : List Instr) : Type 0 where
  pub some : 0 < length code
  pub first : height_at code 0 ≡ 0
  pub starts : is_exchange (slice_get code 0) ≡ false
  pub short : (k : ℕ) (i : Instr) → slice_get code k ≡ Some i → pops i ≤ height_at code k
  pub slots : (k : ℕ) (i : Instr) → slice_get code k ≡ Some i → fits sizes i ≡ true
  -- where it goes on
  pub more : (k : ℕ) (i : Instr) → slice_get code k ≡ Some i → goes_on i ≡ true → k + 1 < length code
  pub on : (k : ℕ) (i : Instr) → slice_get code k ≡ Some i → goes_on i ≡ true → height_at code (k + 1) ≡ left i (height_at code k)
  -- where it jumps
  pub within : (k : ℕ) (i : Instr) (l : ℕ) → slice_get code k ≡ Some i → target i ≡ Some l → l < length code
  pub to : (k : ℕ) (i : Instr) (l : ℕ) → slice_get code k ≡ Some i → target i ≡ Some l → height_at code l ≡ left i (height_at code k)
  pub apart : (k : ℕ) (i : Instr) (l : ℕ) → slice_get code k ≡ Some i → target i ≡ Some l → is_exchange (slice_get code l) ≡ false
  -- before an exchange stand the two others of its stamp, and it goes back to the first
  pub next : (k l : ℕ) → slice_get code (k + 1) ≡ Some (I.Exchange l) → slice_get code k ≡ Some I.Next
  pub back : (k l : ℕ) → slice_get code k ≡ Some (I.Exchange l) → slice_get code l ≡ Some I.LoadWord
  pub back_height : (k l : ℕ) → slice_get code k ≡ Some (I.Exchange l) → height_at code l ≡ height_at code k

pub both_true : (a b : Bool) → (a && b) ≡ true → (a ≡ true) × (b ≡ true)
both_true true b e = (refl, e)
both_true false b e = absurd (both_ways false refl e)

second_false : (a b : Bool) → (a || b) ≡ false → b ≡ false
second_false true b e = absurd (both_ways true e refl)
second_false false b e = e

next_is : (o : Option Instr) → is_next o ≡ true → o ≡ Some I.Next
next_is None e = absurd (both_ways false refl e)
next_is (Some i) e =
    elim i as (λ i. is_next (Some i) ≡ true → Some i ≡ Some I.Next) [ I.Next ↦ λ e. refl | _ ↦ λ e. absurd (both_ways false refl e) ] e

load_is : (o : Option Instr) → is_load o ≡ true → o ≡ Some I.LoadWord
load_is None e = absurd (both_ways false refl e)
load_is (Some i) e =
    elim i as (λ i. is_load (Some i) ≡ true → Some i ≡ Some I.LoadWord) [ I.LoadWord ↦ λ e. refl | _ ↦ λ e. absurd (both_ways false refl e) ] e

module _ (sizes : CodeSizes) (code : List Instr) (fine : IsFine sizes code) where
  starts_is : (o : Option Instr) → slice_get code 0 ≡ o → is_exchange o ≡ false
  starts_is None at = refl
  starts_is (Some i) at =
      elim i as (λ i. slice_get code 0 ≡ Some i → is_exchange (Some i) ≡ false) [
        | I.Exchange l ↦ λ at. absurd (both_ways true (fine.each 0 (I.Exchange l) at).stamp refl)
        | _ ↦ λ at. refl
      ] at

  -- the instruction before an exchange, and how far it goes back
  exchange_is : (k l : ℕ) → slice_get code (suc k) ≡ Some (I.Exchange l) → (slice_get code k ≡ Some I.Next) × (l + 1 ≡ k)
  exchange_is k l at =
      let whole = both_true (is_next (slice_get code k)) (l + 2 == suc k) (not-false _ (fine.each (suc k) (I.Exchange l) at).stamp) in
      let far : l + 2 ≡ suc k = eqb-true (l + 2) (suc k) whole.1 in
      (next_is (slice_get code k) whole.0, omega arith)

  load_before : (l : ℕ) → slice_get code (l + 1) ≡ Some I.Next → slice_get code l ≡ Some I.LoadWord
  load_before l at =
      let here : slice_get code (suc l) ≡ Some I.Next = ap (slice_get code) (sym (add-one l)) ∙ at in
      load_is (slice_get code l)
      (both_true (is_load (slice_get code l)) (is_exchange (slice_get code (suc l + 1))) (not-false _ (fine.each (suc l) I.Next here).stamp)).0

  back_is : (k l : ℕ) → slice_get code k ≡ Some (I.Exchange l)
      → (slice_get code l ≡ Some I.LoadWord) × (slice_get code (l + 1) ≡ Some I.Next) × (k ≡ l + 1 + 1)
  back_is zero l at = absurd (both_ways true (fine.each 0 (I.Exchange l) at).stamp refl)
  back_is (suc k) l at =
      let stamp = exchange_is k l at in
      let next : slice_get code (l + 1) ≡ Some I.Next = ap (slice_get code) stamp.1 ∙ stamp.0 in
      (load_before l next, next, omega (arith, stamp.1))

  apart_is : (k : ℕ) (i : Instr) (l : ℕ) → slice_get code k ≡ Some i → target i ≡ Some l → is_exchange (slice_get code l) ≡ false
  apart_is k (I.JumpZero m) l at to =
      subst (λ x. is_exchange (slice_get code x) ≡ false) (same_Some m l to)
      (second_false (is_next (slice_get code m)) (is_exchange (slice_get code m)) (fine.each k (I.JumpZero m) at).stamp)
  apart_is k (I.Jump m) l at to =
      subst (λ x. is_exchange (slice_get code x) ≡ false) (same_Some m l to)
      (second_false (is_next (slice_get code m)) (is_exchange (slice_get code m)) (fine.each k (I.Jump m) at).stamp)
  apart_is k _ l at to = absurd (none-some l to)

  back_height_is : (k l : ℕ) → slice_get code k ≡ Some (I.Exchange l) → height_at code l ≡ height_at code k
  back_height_is k l at =
      let stamp = back_is k l at in
      let load : height_at code (l + 1) ≡ height_at code l - 0 + 0 = ((fine.each l I.LoadWord stamp.0).on refl).1 in
      let next : height_at code (l + 1 + 1) ≡ height_at code (l + 1) - 0 + 0 = ((fine.each (l + 1) I.Next stamp.1).on refl).1 in
      let same : height_at code l ≡ height_at code (l + 1 + 1) = omega arith in
      same ∙ ap (height_at code) (sym stamp.2)

  places : Places sizes code
  places = record {
    some = fine.some;
    first = fine.start;
    starts = starts_is (slice_get code 0) refl;
    short = λ k i at. (fine.each k i at).enough;
    slots = λ k i at. (fine.each k i at).slots;
    more = λ k i at on. ((fine.each k i at).on on).0;
    on = λ k i at on. ((fine.each k i at).on on).1;
    within = λ k i l at to. ((fine.each k i at).to l to).0;
    to = λ k i l at to. ((fine.each k i at).to l to).1;
    apart = apart_is;
    next = λ k l at. (exchange_is k l (ap (slice_get code) (sym (add-one k)) ∙ at)).0;
    back = λ k l at. (back_is k l at).0;
    back_height = back_height_is;
  }

pub verified_places : (sizes : CodeSizes) (code : List Instr) → IsVerified sizes code → Places sizes code
verified_places sizes code verified = places sizes code (verified_fine sizes code verified)
