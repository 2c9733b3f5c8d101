-- A run with one more item of its schedule.
use Rattle.std.proofs.Common.{◌≡◌, ℕ, List, [], ◌∷◌, ◌++◌, refl, ap, sym, ◌∙◌, append_assoc}
use Rattle.std.specs.Prelude.{slice_get, Some}
use Rattle.std.proofs.lemmas.List.{append-nil}
use Rattle.base.specs.declared.status.Status.TheVariants.{Running}
use Rattle.word_core.specs.declared.history.Shared.{Shared}
use Rattle.code_core.specs.declared.instr.Instr.{Instr}
use Rattle.code_core.specs.Instructions.{StepCode}
use Rattle.code_machine.specs.Machine.{CodeProcess, CodeState, did, state_after, step_as, step_of, code_step, code_run, code_start}
use Rattle.tick_merge.specs.Ran.{run_under, memory_in, shared_step, shared_as, shared_by, shared_from, shared_of, Runs, AllRunFrom, AllRun}

module _ (n : ℕ) (code : List Instr) where
  pub code_run-append : (front rest : List ℕ) (s : CodeState) → code_run n code (front ++ rest) s ≡ code_run n code rest (code_run n code front s)
  code_run-append [] rest s = refl
  code_run-append (p ∷ front) rest s = code_run-append front rest (code_step n code p s)

  shared-append : (front rest : List ℕ) (s : CodeState)
      → shared_from n code (front ++ rest) s ≡ shared_from n code front s ++ shared_from n code rest (code_run n code front s)
  shared-append [] rest s = refl
  shared-append (p ∷ front) rest s =
      let first : List Shared = shared_by n code p s (slice_get s.processes p) in
      let later = code_step n code p s in
      ap (λ xs. first ++ xs) (shared-append front rest later)
      ∙ sym (append_assoc first (shared_from n code front later) (shared_from n code rest (code_run n code front later)))

  all_run-snoc : (front : List ℕ) (p : ℕ) (s : CodeState) → AllRunFrom n code front s → Runs p (code_run n code front s)
      → AllRunFrom n code (front ++ p ∷ []) s
  all_run-snoc [] p s all runs = (runs, tt)
  all_run-snoc (first ∷ front) p s all runs = (all.0, all_run-snoc front p (code_step n code first s) all.1 runs)

  -- a process that goes on makes its instruction
  step_is : (p : ℕ) (s : CodeState) (q : CodeProcess) → slice_get s.processes p ≡ Some q → q.status ≡ Running
      → code_step n code p s ≡ state_after p s (did n p code q)
  step_is p s q there running = ap (step_of n code p s) there ∙ ap (step_as n code p s q) running

  shared_is : (p : ℕ) (s : CodeState) (q : CodeProcess) → slice_get s.processes p ≡ Some q → q.status ≡ Running
      → shared_by n code p s (slice_get s.processes p) ≡ shared_step p (memory_in s) (did n p code q)
  shared_is p s q there running = ap (shared_by n code p s) there ∙ ap (shared_as n code p s q) running

-- Process `p` goes on, and makes one instruction more.
module _ (c : StepCode) (schedule : List ℕ) (p : ℕ) (q : CodeProcess) (there : slice_get (run_under c schedule).processes p ≡ Some q) (running : q.status ≡ Running) where
  pub run_next : run_under c (schedule ++ p ∷ []) ≡ state_after p (run_under c schedule) (did c.sizes.processes p c.instructions q)
  run_next =
      code_run-append c.sizes.processes c.instructions schedule (p ∷ []) (code_start c.sizes)
      ∙ step_is c.sizes.processes c.instructions p (run_under c schedule) q there running

  pub shared_next : shared_of c (schedule ++ p ∷ [])
      ≡ shared_of c schedule ++ shared_step p (memory_in (run_under c schedule)) (did c.sizes.processes p c.instructions q)
  shared_next =
      shared-append c.sizes.processes c.instructions schedule (p ∷ []) (code_start c.sizes)
      ∙ ap (λ xs. shared_of c schedule ++ xs)
      (append-nil (shared_by c.sizes.processes c.instructions p (run_under c schedule) (slice_get (run_under c schedule).processes p))
      ∙ shared_is c.sizes.processes c.instructions p (run_under c schedule) q there running)

  pub all_run_next : AllRun c schedule → AllRun c (schedule ++ p ∷ [])
  all_run_next all =
      all_run-snoc c.sizes.processes c.instructions schedule p (code_start c.sizes) all (record { process = q; there = there; running = running })
