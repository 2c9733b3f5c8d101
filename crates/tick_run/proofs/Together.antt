-- What the workers did stands together.
-- The idea. Jobs are taken from the end of their list: `ready_job` says what the last one may do, `ready_rest` that the
-- others stay ready. What the workers did is gathered in three lists, which grow together. Their values at a place are
-- those of one worker (`Gathers`): at the last place those that were added (`late`), before it those of the shorter lists
-- (`early`). Once all passes have met, each process ran as its worker says (`all_ran`).
-- Read `gathers_next` first, then `all_ran`.
use Rattle.std.proofs.Common.{◌≡◌, ◌≢◌, ⊎_elim, ℕ, ◌+◌, ◌<◌, List, [], ◌∷◌, ◌++◌, length, ap, sym, subst, ◌∙◌, arith}
use Rattle.std.specs.Prelude.{Some, All, slice_get, slice_index_or, vec_items, vec_capacity}
use Rattle.std.proofs.lemmas.Bool.{cases_eq}
use Rattle.std.proofs.lemmas.List.{length-append}
use Rattle.std.proofs.lemmas.Option.{slice_get_within, slice_get-get_or}
use Rattle.base.specs.declared.run_outcome.RunEnd.{RunEnd}
use Rattle.base.specs.declared.run_outcome.RunEnd.TheVariants.{Ended}
use Rattle.code_core.specs.Instructions.{StepCode}
use Rattle.stamp_table.specs.Passes.{TableView, PassView, Holds, mine, AllMeet}
use Rattle.stamp_table.proofs.Offered.{held_by_all}
use Rattle.tick_run.specs.prover.Alone.{RanSo}
use Rattle.tick_run.specs.declared.jobs.Job.{Job}
use Rattle.tick_run.specs.prover.Work.{CanWork, IsWork, AreReady, Gathers}
use Rattle.code_machine.proofs.Offered.{get-snoc}
use Rattle.tick_run.proofs.Readying.{get_left, get_last}

pub ready_rest : {G : Type 0} (t : TableView) (c : StepCode) (turns outs : ℕ) (jobs rest : List (Job G)) (job : Job G)
    → AreReady t c turns outs jobs → jobs ≡ rest ++ job ∷ [] → AreReady t c turns outs rest
ready_rest t c turns outs jobs rest job ready same = λ p other at.
    ready p other (ap (λ xs. slice_get xs p) same ∙ get_left rest job p other at)

pub ready_number : {G : Type 0} (t : TableView) (c : StepCode) (turns outs : ℕ) (jobs rest : List (Job G)) (job : Job G)
    → AreReady t c turns outs jobs → jobs ≡ rest ++ job ∷ [] → job.process ≡ length rest
ready_number t c turns outs jobs rest job ready same =
    (ready (length rest) job (ap (λ xs. slice_get xs (length rest)) same ∙ get_last rest job)).0

pub ready_job : {G : Type 0} (t : TableView) (c : StepCode) (turns outs : ℕ) (jobs rest : List (Job G)) (job : Job G)
    → AreReady t c turns outs jobs → jobs ≡ rest ++ job ∷ []
    → CanWork t c job.process turns outs job.proc job.pass (vec_items job.outputs) (vec_capacity job.outputs)
ready_job t c turns outs jobs rest job ready same =
    let last = ready (length rest) job (ap (λ xs. slice_get xs (length rest)) same ∙ get_last rest job) in
    subst (λ p. CanWork t c p turns outs job.proc job.pass (vec_items job.outputs) (vec_capacity job.outputs)) (sym last.0) last.1

pub gathers_none : (t : TableView) (c : StepCode) (turns outs : ℕ) (passes : List PassView) (outputs : List (List ℕ)) (ends : List RunEnd) → passes ≡ []
    → outputs ≡ [] → ends ≡ [] → Gathers t c turns outs 0 passes outputs ends
gathers_none t c turns outs passes outputs ends no_passes no_outputs no_ends = record {
  all_passes = ap length no_passes;
  all_outputs = ap length no_outputs;
  all_ends = ap length no_ends;
  each = λ p pass given end at_pass at_given at_end. absurd (omega (arith, slice_get_within ends p end at_end, ap length no_ends));
}

-- in a list of `n` values with one more, what stands before place `n`, and there
early : {X : Type 0} (xs more : List X) (x found : X) (n p : ℕ) → length xs ≡ n → more ≡ xs ++ x ∷ [] → p ≢ n → slice_get more p ≡ Some found → slice_get xs p ≡ Some found
early xs more x found n p count is other at =
    ⊎_elim (λ before. before) (λ last. absurd (other (last.0 ∙ count))) (get-snoc xs x p found (ap (λ ys. slice_get ys p) (sym is) ∙ at))

late : {X : Type 0} (xs more : List X) (x found : X) (n : ℕ) → length xs ≡ n → more ≡ xs ++ x ∷ [] → slice_get more n ≡ Some found → x ≡ found
late xs more x found n count is at =
    ⊎_elim
    (λ before. absurd (omega (arith, slice_get_within xs n found before, count)))
    (λ last. last.1)
    (get-snoc xs x n found (ap (λ ys. slice_get ys n) (sym is) ∙ at))

at_place : {X : Type 0} (xs : List X) (x : X) (p n : ℕ) → p ≡ n → slice_get xs p ≡ Some x → slice_get xs n ≡ Some x
at_place xs x p n same at = subst (λ k. slice_get xs k ≡ Some x) same at

module _ (t : TableView) (c : StepCode) (turns outs n : ℕ) (passes others : List PassView) (outputs more : List (List ℕ)) (ends further : List RunEnd)
    (pass : PassView) (given : List ℕ) (end : RunEnd) (was : Gathers t c turns outs n passes outputs ends) (work : IsWork t c n turns outs pass given end)
    (more_passes : others ≡ passes ++ pass ∷ []) (more_outputs : more ≡ outputs ++ given ∷ []) (more_ends : further ≡ ends ++ end ∷ []) where
  work_next : (p : ℕ) (one : PassView) (values : List ℕ) (way : RunEnd) → slice_get others p ≡ Some one → slice_get more p ≡ Some values
      → slice_get further p ≡ Some way → IsWork t c p turns outs one values way
  work_next p one values way at_pass at_values at_way =
      ⊎_elim
      (λ same.
      let its_pass : IsWork t c n turns outs one given end =
      subst (λ x. IsWork t c n turns outs x given end) (late passes others pass one n was.all_passes more_passes (at_place others one p n same at_pass)) work in
      let its_values : IsWork t c n turns outs one values end =
      subst (λ x. IsWork t c n turns outs one x end) (late outputs more given values n was.all_outputs more_outputs (at_place more values p n same at_values)) its_pass in
      subst (λ k. IsWork t c k turns outs one values way) (sym same)
      (subst (λ x. IsWork t c n turns outs one values x) (late ends further end way n was.all_ends more_ends (at_place further way p n same at_way)) its_values))
      (λ other.
      was.each p one values way (early passes others pass one n p was.all_passes more_passes other at_pass)
      (early outputs more given values n p was.all_outputs more_outputs other at_values) (early ends further end way n p was.all_ends more_ends other at_way))
      (cases_eq p n)

  pub gathers_next : Gathers t c turns outs (n + 1) others more further
  gathers_next = record {
    all_passes = ap length more_passes ∙ length-append passes (pass ∷ []) ∙ ap (λ k. k + 1) was.all_passes;
    all_outputs = ap length more_outputs ∙ length-append outputs (given ∷ []) ∙ ap (λ k. k + 1) was.all_outputs;
    all_ends = ap length more_ends ∙ length-append ends (end ∷ []) ∙ ap (λ k. k + 1) was.all_ends;
    each = work_next;
  }

-- The passes of all workers met.
module _ (t : TableView) (c : StepCode) (turns outs n : ℕ) (passes : List PassView) (outputs : List (List ℕ)) (ends : List RunEnd)
    (all : Gathers t c turns outs n passes outputs ends) where
  worked_at : (p : ℕ) (d : PassView) → p < n → IsWork t c p turns outs (slice_index_or passes p d) (slice_index_or outputs p []) (slice_index_or ends p Ended)
  worked_at p d below =
      all.each p (slice_index_or passes p d) (slice_index_or outputs p []) (slice_index_or ends p Ended)
      (slice_get-get_or passes p d (omega (arith, below, all.all_passes)))
      (slice_get-get_or outputs p [] (omega (arith, below, all.all_outputs)))
      (slice_get-get_or ends p Ended (omega (arith, below, all.all_ends)))

  pub all_here : All (λ (pass : PassView). pass.table ≡ t) passes
  all_here = λ p d below. (worked_at p d (omega (arith, below, all.all_passes))).here

  module _ (met : PassView) (meet : AllMeet t passes met) where
    pub all_held : (p : ℕ) → p < n → Holds met.held p
    all_held p below =
        held_by_all t passes met meet p met (omega (arith, below, all.all_passes)) p (worked_at p met below).held

    pub all_ran : (p : ℕ) (given : List ℕ) (end : RunEnd) → slice_get outputs p ≡ Some given → slice_get ends p ≡ Some end
        → RanSo c p turns outs (mine p met.seen) given end
    all_ran p given end at_given at_end =
        let below : p < length passes = omega (arith, slice_get_within ends p end at_end, all.all_passes, all.all_ends) in
        let work = all.each p (slice_index_or passes p met) given end (slice_get-get_or passes p met below) at_given at_end in
        subst (λ steps. RanSo c p turns outs steps given end) (sym (meet.all_mine p met below p work.held)) work.ran
