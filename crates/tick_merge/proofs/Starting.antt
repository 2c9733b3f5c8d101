-- Before the first step of a history.
use Rattle.std.proofs.Common.{◌≡◌, ⊎_elim, ℕ, zero, suc, ◌+◌, ◌<◌, ◌≤◌, List, [], ◌∷◌, ◌++◌, length, replicate, refl, ap, sym, subst, ◌∙◌, arith}
use Rattle.std.specs.Prelude.{slice_get, slice_index, Some, vec_items}
use Rattle.std.proofs.lemmas.List.{length-append}
use Rattle.std.proofs.lemmas.Option.{slice_get_within}
use Rattle.base.specs.RegisterRows.{start_rows}
use Rattle.word_core.specs.Stamps.{start_labels}
use Rattle.code_core.specs.Instructions.{StepCode}
use Rattle.code_core.specs.Verified.{IsVerified}
use Rattle.code_machine.specs.Machine.{start_process}
use Rattle.code_machine.specs.Process.{OneProcess, IsOf}
use Rattle.code_machine.proofs.Offered.{get-snoc}
use Rattle.tick_merge.specs.Ran.{run_under, occurs}
use Rattle.tick_merge.specs.declared.merging.Merging.{Merging}
use Rattle.tick_merge.specs.prover.Reached.{Reached, AreNew}
use Rattle.tick_merge.specs.prover.Standing.{Stands}
use Rattle.tick_merge.proofs.Standing.{stands_start}

pub none_new : (c : StepCode) → AreNew c 0 []
none_new c = record { many = refl; each = λ p one at. absurd (cc) }

pub one_new : (c : StepCode) (k : ℕ) (ones more : List OneProcess) (one : OneProcess) → more ≡ ones ++ one ∷ [] → AreNew c k ones
    → IsOf c one → one.me ≡ k → one.process ≡ start_process c.sizes → AreNew c (k + 1) more
one_new c k ones more one longer were of me start = record {
  many = ap length longer ∙ length-append ones (one ∷ []) ∙ ap (λ n. n + 1) were.many;
  each = λ p x at.
      ⊎_elim
      (λ before. were.each p x before)
      (λ (last, same).
      let here : k ≡ p = sym (last ∙ were.many) in
      subst (λ (y : OneProcess). IsOf c y × (y.me ≡ p) × (y.process ≡ start_process c.sizes)) same (of, me ∙ here, start))
      (get-snoc ones one p x (ap (λ xs. slice_get xs p) (sym longer) ∙ at));
}

get_replicated : {X : Type 0} (n k : ℕ) (x : X) → k < n → slice_get (replicate n x) k ≡ Some x
get_replicated zero k x below = absurd (omega (arith, below))
get_replicated (suc n) zero x below = refl
get_replicated (suc n) (suc k) x below = get_replicated n k x (omega (arith, below))

pub reached_start : (c : StepCode) (turns : List ℕ) (m : Merging) → IsVerified c.sizes c.instructions → c.sizes.processes ≤ 6
    → length turns ≡ c.sizes.processes → m.words.labels ≡ start_labels c.sizes.processes → m.words.registers ≡ start_rows c.sizes.rows c.sizes.processes
    → AreNew c c.sizes.processes (vec_items m.processes) → vec_items m.left ≡ turns → vec_items m.schedule ≡ [] → Reached c turns [] m
reached_start c turns m verified few many labels rows ones lefts empty = record {
  verified = verified;
  few = few;
  legal = tt;
  stands = subst (λ t. Stands c t []) (sym empty) (stands_start c);
  words = λ i. record { labels = labels i; rows = rows i };
  many = ones.many;
  each = λ p one at.
      let new = ones.each p one at in
      record {
        of = new.0;
        me = new.1;
        there =
            ap (λ t. slice_get (run_under c t).processes p) empty
            ∙ at_start p (omega (arith, slice_get_within (vec_items m.processes) p one at, ones.many)) ∙ ap Some (sym new.2);
      };
  all_left = ap length lefts ∙ many;
  left = λ p below. (λ i. occurs p (empty i) + slice_index (lefts i) p) ∙ (let none : occurs p [] ≡ 0 = refl in omega (arith, none));
}
  where
    at_start : (p : ℕ) → p < c.sizes.processes → slice_get (replicate c.sizes.processes (start_process c.sizes)) p ≡ Some (start_process c.sizes)
    at_start p below = get_replicated c.sizes.processes p (start_process c.sizes) below
