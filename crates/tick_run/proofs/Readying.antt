-- The pass of all processes is split, one job after another.
use Rattle.std.proofs.Common.{◌≡◌, ⊎_elim, ℕ, zero, suc, ◌+◌, ◌<◌, ◌≤◌, true, false, List, [], ◌∷◌, ◌++◌, length, refl, ap, sym, subst, ◌∙◌, arith}
use Rattle.std.specs.Prelude.{min, Some, slice_get, slice_set, vec_items, vec_capacity}
use Rattle.std.proofs.lemmas.Bool.{lt-ltb}
use Rattle.std.proofs.lemmas.List.{length-append, get_or-set_same, get_or-set_other}
use Rattle.code_core.specs.Instructions.{StepCode}
use Rattle.code_machine.specs.Machine.{start_process}
use Rattle.code_machine.specs.Process.{OneProcess, IsOf}
use Rattle.code_machine.proofs.Offered.{get-snoc}
use Rattle.stamp_table.specs.Passes.{TableView, PassView, Holds, none_held, first_held, whole, part}
use Rattle.tick_run.specs.declared.jobs.Job.{Job}
use Rattle.tick_run.specs.prover.Work.{CanWork, AreSplit}

-- what stands in the beginning of a list with one more at its end
pub get_left : {X : Type 0} (xs : List X) (y : X) (k : ℕ) (x : X) → slice_get xs k ≡ Some x → slice_get (xs ++ y ∷ []) k ≡ Some x
get_left [] y k x at = absurd (cc)
get_left (z ∷ xs) y zero x at = at
get_left (z ∷ xs) y (suc k) x at = get_left xs y k x at

pub get_last : {X : Type 0} (xs : List X) (y : X) → slice_get (xs ++ y ∷ []) (length xs) ≡ Some y
get_last [] y = refl
get_last (z ∷ xs) y = get_last xs y

-- the first processes are held
first_holds : (n p : ℕ) → n ≤ 6 → p < n → Holds (first_held n) p
first_holds n zero few below = lt-ltb 0 n below
first_holds n (suc zero) few below = lt-ltb 1 n below
first_holds n (suc (suc zero)) few below = lt-ltb 2 n below
first_holds n (suc (suc (suc zero))) few below = lt-ltb 3 n below
first_holds n (suc (suc (suc (suc zero)))) few below = lt-ltb 4 n below
first_holds n (suc (suc (suc (suc (suc zero))))) few below = lt-ltb 5 n below
first_holds n (suc (suc (suc (suc (suc (suc p)))))) few below = absurd (omega (arith, few, below))

-- before the first job
pub none_split : {G : Type 0} (t : TableView) (c : StepCode) (turns outs : ℕ) (left : PassView) (jobs : List (Job G)) → t.n ≤ 6 → left ≡ whole t → jobs ≡ []
    → AreSplit t c turns outs 0 left jobs
none_split t c turns outs left jobs few all none = record {
  here = ap (λ (x : PassView). x.table) all;
  held = λ p least below. subst (λ (x : PassView). Holds x.held p) (sym all) (first_holds t.n p few below);
  unseen = ap (λ (x : PassView). x.seen) all;
  count = ap length none;
  ready = λ p job at. (let nothing : slice_get [] p ≡ Some job = ap (λ js. slice_get js p) (sym none) ∙ at in absurd (cc));
}

-- a process alone
pub alone_holds : (p : ℕ) → p < 6 → Holds (slice_set none_held p true) p
alone_holds p below = get_or-set_same none_held p true false below

-- one more job
pub one_split : {G : Type 0} (t : TableView) (c : StepCode) (turns outs made : ℕ) (left rest : PassView) (jobs more : List (Job G)) (job : Job G)
    → AreSplit t c turns outs made left jobs → rest ≡ part left (slice_set left.held made false) → more ≡ jobs ++ job ∷ []
    → job.process ≡ made
    → CanWork t c made turns outs job.proc job.pass (vec_items job.outputs) (vec_capacity job.outputs)
    → AreSplit t c turns outs (made + 1) rest more
one_split {G} t c turns outs made left rest jobs more job was parted longer process can = record {
  here = ap (λ (x : PassView). x.table) parted ∙ was.here;
  held = λ p least below.
      subst (λ (x : PassView). Holds x.held p) (sym parted)
      (get_or-set_other left.held made p false false (omega (arith, least)) ∙ was.held p (omega (arith, least)) below);
  unseen = ap (λ (x : PassView). x.seen) parted ∙ was.unseen;
  count = ap length longer ∙ length-append jobs (job ∷ []) ∙ ap (λ k. k + 1) was.count;
  ready = λ p other at.
      ⊎_elim
      (λ before. was.ready p other before)
      (λ last.
      let here : made ≡ p = sym (last.0 ∙ was.count) in
      subst (λ (j : Job G). (j.process ≡ p) × CanWork t c p turns outs j.proc j.pass (vec_items j.outputs) (vec_capacity j.outputs)) last.1
      (process ∙ here, subst (λ k. CanWork t c k turns outs job.proc job.pass (vec_items job.outputs) (vec_capacity job.outputs)) here can))
      (get-snoc jobs job p other (ap (λ xs. slice_get xs p) (sym longer) ∙ at));
}

-- a process before its first instruction, with the pass that was split off for it
pub can_work : (t : TableView) (c : StepCode) (p turns outs : ℕ) (one : OneProcess) (left pass : PassView) (given : List ℕ) (room : ℕ)
    → one.me ≡ p → IsOf c one → one.process ≡ start_process c.sizes → left.table ≡ t → left.seen ≡ [] → p < 6
    → pass ≡ part left (slice_set none_held p true) → given ≡ [] → min turns outs ≤ room → CanWork t c p turns outs one pass given room
can_work t c p turns outs one left pass given room me of start here unseen below parted empty has_room = record {
  me = me;
  of = of;
  start = start;
  here = ap (λ (x : PassView). x.table) parted ∙ here;
  held = subst (λ (x : PassView). Holds x.held p) (sym parted) (alone_holds p below);
  unseen = ap (λ (x : PassView). x.seen) parted ∙ unseen;
  empty = empty;
  has_room = has_room;
}
