-- The state of a history after its process was led on, and after its step.
-- The idea. `Reached` says what the code keeps of a history: each process, the instructions that are left to each, the
-- schedule, and the words. `Changed` says what is new where one process went on: its own place in these lists, and no
-- other. So the state is that of the history again, or of a longer one (`reached_as`). `is_led` is the case in which it
-- made alone what it could.
-- Read `Changed` first, then `reached_as`.
use Rattle.std.proofs.Common.{◌≡◌, ◌≢◌, ⊎_elim, ℕ, ◌+◌, ◌-◌, ◌<◌, List, ◌++◌, length, replicate, ap, sym, subst, ◌∙◌, arith}
use Rattle.std.specs.Prelude.{slice_get, slice_set, slice_index, Some, vec_items}
use Rattle.std.proofs.lemmas.Bool.{cases_eq}
use Rattle.std.proofs.lemmas.List.{length-set, get_or-set_same, get_or-set_other}
use Rattle.std.proofs.lemmas.Option.{same_Some}
use Rattle.word_core.specs.History.{memory_of, IsLegal}
use Rattle.word_core.specs.declared.history.Shared.{Shared}
use Rattle.code_core.specs.Instructions.{StepCode}
use Rattle.code_machine.specs.Process.{OneProcess, IsOf}
use Rattle.code_machine.proofs.Offered.{get-set}
use Rattle.tick_merge.specs.Ran.{occurs}
use Rattle.tick_merge.specs.Merged.{alone_for, alone_of, turns_left}
use Rattle.tick_merge.specs.declared.merging.Merging.{Merging}
use Rattle.tick_merge.specs.prover.Standing.{Stands}
use Rattle.tick_merge.specs.prover.Held.{memory_held, after_alone}
use Rattle.tick_merge.specs.prover.Reached.{IsHeld, Reached, IsQuiet, IsLed}
use Rattle.tick_merge.proofs.Lists.{get_set_same, occurs-repeated, occurs-others}
use Rattle.tick_merge.proofs.Leading.{OthersStay, LedTo, leads_alone}

-- The schedule and process `p` changed, and how many instructions are left to it.
pub record Changed (c : StepCode) (turns : List ℕ) (p left : ℕ) (old new : Merging) (one : OneProcess) : Type 0 where
  pub processes : vec_items new.processes ≡ slice_set (vec_items old.processes) p one
  pub lefts : vec_items new.left ≡ slice_set (vec_items old.left) p left
  pub held : IsHeld c (vec_items new.schedule) p one
  pub others : OthersStay c p (vec_items old.schedule) (vec_items new.schedule)
  pub counts : occurs p (vec_items new.schedule) + left ≡ slice_index turns p
  pub same : (j : ℕ) → j ≢ p → occurs j (vec_items new.schedule) ≡ occurs j (vec_items old.schedule)

module _ (c : StepCode) (turns : List ℕ) (history : List Shared) (p : ℕ) (below : p < c.sizes.processes) (old : Merging) (r : Reached c turns history old) where
  module _ (new : Merging) (left : ℕ) (one : OneProcess) (changed : Changed c turns p left old new one) where
    each_new : (j : ℕ) (x : OneProcess) → slice_get (vec_items new.processes) j ≡ Some x → IsHeld c (vec_items new.schedule) j x
    each_new j x at =
        ⊎_elim
        (λ (same, is_x). subst (λ k. IsHeld c (vec_items new.schedule) k x) (sym same) (subst (IsHeld c (vec_items new.schedule) p) is_x changed.held))
        (λ (apart, before).
        let was = r.each j x before in
        record { of = was.of; me = was.me; there = changed.others j x.process apart was.there })
        (get-set (vec_items old.processes) p j one x (ap (λ xs. slice_get xs j) (sym changed.processes) ∙ at))

    left_new : (j : ℕ) → j < c.sizes.processes → occurs j (vec_items new.schedule) + slice_index (vec_items new.left) j ≡ slice_index turns j
    left_new j inside =
        ⊎_elim
        (λ same.
        let here : slice_index (vec_items new.left) p ≡ left =
        ap (λ xs. slice_index xs p) changed.lefts ∙ get_or-set_same (vec_items old.left) p left 0 (omega (arith, below, r.all_left)) in
        subst (λ k. occurs k (vec_items new.schedule) + slice_index (vec_items new.left) k ≡ slice_index turns k) (sym same)
        (ap (λ k. occurs p (vec_items new.schedule) + k) here ∙ changed.counts))
        (λ apart.
        let there : slice_index (vec_items new.left) j ≡ slice_index (vec_items old.left) j =
        ap (λ xs. slice_index xs j) changed.lefts ∙ get_or-set_other (vec_items old.left) p j left 0 apart in
        (λ i. changed.same j apart i + there i) ∙ r.left j inside)
        (cases_eq j p)

    pub reached_as : (longer : List Shared) → IsLegal c.sizes.processes c.sizes.rows longer → Stands c (vec_items new.schedule) longer
        → memory_held new.words ≡ memory_of c.sizes.processes c.sizes.rows longer → Reached c turns longer new
    reached_as longer legal stands words = record {
      verified = r.verified;
      few = r.few;
      legal = legal;
      stands = stands;
      words = words;
      many = ap length changed.processes ∙ length-set (vec_items old.processes) p one ∙ r.many;
      each = each_new;
      all_left = ap length changed.lefts ∙ length-set (vec_items old.left) p left ∙ r.all_left;
      left = left_new;
    }

  -- process `p` made alone what it could
  pub is_led : (new : Merging) (one later : OneProcess) (most count : ℕ) → slice_get (vec_items old.processes) p ≡ Some one
      → most ≡ slice_index (vec_items old.left) p → count ≡ alone_for c.sizes.processes c.instructions p most one.process
      → later.process ≡ after_alone c.sizes.processes c.instructions p most one.process → IsOf c later → later.me ≡ p
      → memory_held new.words ≡ memory_held old.words → vec_items new.processes ≡ slice_set (vec_items old.processes) p later
      → vec_items new.left ≡ slice_set (vec_items old.left) p (most - count)
      → vec_items new.schedule ≡ vec_items old.schedule ++ replicate count p → IsLed c turns history p old new (most - count)
  is_led new one later most count at all_most counted after_is of me words processes lefts scheduled =
      let n : ℕ = c.sizes.processes in
      let was = r.each p one at in
      let led = leads_alone c r.verified r.few p below most (vec_items old.schedule) history one.process r.stands was.there in
      let to : LedTo c p most (vec_items old.schedule) (vec_items old.schedule ++ replicate count p) history later.process count =
      subst (λ q. LedTo c p most (vec_items old.schedule) (vec_items old.schedule ++ replicate count p) history q count) (sym after_is)
      (subst (λ k. LedTo c p most (vec_items old.schedule) (vec_items old.schedule ++ replicate k p) history (after_alone n c.instructions p most one.process) k)
      (sym counted) led) in
      let here : LedTo c p most (vec_items old.schedule) (vec_items new.schedule) history later.process count =
      subst (λ t. LedTo c p most (vec_items old.schedule) t history later.process count) (sym scheduled) to in
      let bound : turns_left turns (vec_items old.schedule) p ≡ most = omega (arith, r.left p below, all_most) in
      let occurred : occurs p (vec_items new.schedule) ≡ occurs p (vec_items old.schedule) + count =
      ap (occurs p) scheduled ∙ occurs-repeated p (vec_items old.schedule) count in
      let changed : Changed c turns p (most - count) old new later = record {
        processes = processes;
        lefts = lefts;
        held = record { of = of; me = me; there = here.there };
        others = here.others;
        counts = omega (arith, occurred, r.left p below, all_most, here.few);
        same = λ j apart. ap (occurs j) scheduled ∙ occurs-others p j count (vec_items old.schedule) apart;
      }
      in
      record {
        reached = reached_as new (most - count) later changed history r.legal here.stands (words ∙ r.words);
        count = count;
        schedule = scheduled;
        is = counted ∙ sym (λ i. alone_of c p (bound i) (was.there i));
        all = omega (arith, bound, here.few);
        left_is = sym (ap (λ xs. slice_index xs p) lefts ∙ get_or-set_same (vec_items old.left) p (most - count) 0 (omega (arith, below, r.all_left)));
        words = words;
        quiet = λ x found more.
            let same : later ≡ x =
            same_Some later x
            (sym (ap (λ xs. slice_get xs p) processes ∙ get_set_same (vec_items old.processes) p later (omega (arith, below, r.many))) ∙ found)
            in
            subst (λ (y : OneProcess). IsQuiet c p y.process) same (here.quiet (omega (arith, more)));
      }
