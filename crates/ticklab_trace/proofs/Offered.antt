-- The lemmas on steps that other crates may cite: a run that is followed step by step, and the list of its steps, which grows.
use Rattle.std.proofs.Common.{◌≡◌, ℕ, zero, suc, ◌+◌, ◌<◌, List, [], ◌∷◌, ◌++◌, length, map, take, get_or, refl, ap, ◌∙◌, sym, subst, arith, Some, inl, inr}
use Rattle.std.specs.Prelude.{slice_get, slice_index}
use Rattle.std.proofs.lemmas.Bool.{cases_lt}
use Rattle.std.proofs.lemmas.List.{length-append, take_more}
use Rattle.std.proofs.lemmas.Option.{same_Some, none-some, slice_get_within}
use Rattle.base.specs.declared.event.Event.{Event}
use Rattle.base.specs.Observables.{told}
use Rattle.base.specs.Plain.{WholeProgram}
use Rattle.tick_source.specs.Source.{SourceState, source, source_start, source_step, source_run}
use Rattle.code_core.specs.declared.instr.Instr.{Instr}
use Rattle.code_core.specs.Instructions.{StepCode}
use Rattle.code_machine.specs.Machine.{CodeRun, CodeState, code_start, code_step, code_run, run_of}
use Rattle.ticklab_trace.specs.declared.steps.StatementStep.{StatementStep}
use Rattle.ticklab_trace.specs.declared.steps.InstructionStep.{InstructionStep}
use Rattle.ticklab_trace.specs.StatementSteps as S
use Rattle.ticklab_trace.specs.InstructionSteps as I
use Rattle.ticklab_trace.specs.prover.SoFar as F

module _ {X : Type 0} where
  get_left : (xs ys : List X) (k : ℕ) → k < length xs → slice_get (xs ++ ys) k ≡ slice_get xs k
  get_left [] ys k inside = absurd (omega (arith, inside))
  get_left (x ∷ xs) ys zero inside = refl
  get_left (x ∷ xs) ys (suc k) inside = get_left xs ys k (omega (arith, inside))

  get_last : (xs : List X) (y : X) → slice_get (xs ++ y ∷ []) (length xs) ≡ Some y
  get_last [] y = refl
  get_last (x ∷ xs) y = get_last xs y

  -- what holds of each item, where it holds of one more
  each_more : (P : ℕ → X → Type 0) (xs : List X) (y : X) → ((k : ℕ) (x : X) → slice_get xs k ≡ Some x → P k x) → P (length xs) y
      → (k : ℕ) (x : X) → slice_get (xs ++ y ∷ []) k ≡ Some x → P k x
  each_more P xs y each last k x is = elim (cases_lt k (length xs)) as (λ _. P k x) [
    | inl before ↦ each k x (sym (get_left xs (y ∷ []) k before) ∙ is)
    | inr after ↦
        let here : k ≡ length xs = omega (arith, after, slice_get_within (xs ++ y ∷ []) k x is, length-append xs (y ∷ [])) in
        let same : y ≡ x = same_Some y x (sym (get_last xs y) ∙ ap (slice_get (xs ++ y ∷ [])) (sym here) ∙ is) in
        subst (λ j. P j x) (sym here) (subst (P (length xs)) same last)
  ]

  map_more : {Y : Type 0} (f : X → Y) (xs : List X) (y : X) → map f (xs ++ y ∷ []) ≡ map f xs ++ f y ∷ []
  map_more f [] y = refl
  map_more f (x ∷ xs) y = ap (λ l. f x ∷ l) (map_more f xs y)

source_more : (n p : ℕ) (xs : List ℕ) (s : SourceState) → source_run n (xs ++ p ∷ []) s ≡ source_step n p (source_run n xs s)
source_more n p [] s = refl
source_more n p (x ∷ xs) s = source_more n p xs (source_step n x s)

code_more : (n : ℕ) (code : List Instr) (p : ℕ) (xs : List ℕ) (s : CodeState) → code_run n code (xs ++ p ∷ []) s ≡ code_step n code p (code_run n code xs s)
code_more n code p [] s = refl
code_more n code p (x ∷ xs) s = code_more n code p xs (code_step n code x s)

source_events : (events : List Event) (steps : List StatementStep) (step : StatementStep)
    → S.events_after events (steps ++ step ∷ []) ≡ told step.process step.act (S.events_after events steps)
source_events events [] step = refl
source_events events (first ∷ steps) step = source_events (told first.process first.act events) steps step

-- one item more of the schedule
pub source_on : (a : WholeProgram ℕ) (schedule : List ℕ) (i : ℕ) → i < length schedule
    → source a (take (i + 1) schedule) ≡ source_step a.processes (slice_index schedule i) (source a (take i schedule))
source_on a schedule i inside =
    ap (source a) (take_more schedule i 0 inside) ∙ source_more a.processes (get_or schedule i 0) (take i schedule) (source_start a)

pub code_on : (c : StepCode) (schedule : List ℕ) (i : ℕ) → i < length schedule
    → run_of c.sizes c.instructions (take (i + 1) schedule) ≡ code_step c.sizes.processes c.instructions (slice_index schedule i) (run_of c.sizes c.instructions (take i schedule))
code_on c schedule i inside =
    ap (run_of c.sizes c.instructions) (take_more schedule i 0 inside)
    ∙ code_more c.sizes.processes c.instructions (get_or schedule i 0) (take i schedule) (code_start c.sizes)

-- a run that is followed, and what the step is told as that it makes
pub stepped : (a : WholeProgram ℕ) (schedule : List ℕ) (i : ℕ) → i < length schedule → (before after : S.RunState) (step : StatementStep)
    → before.body ≡ a.body → before.state ≡ source a (take i schedule) → length before.state.processes ≡ a.processes
    → after.state ≡ source_step (length before.state.processes) (slice_index schedule i) before.state
    → S.IsStatementStep before.body (slice_index schedule i) before.state after.state step
    → (after.state ≡ source a (take (i + 1) schedule))
    × S.IsStatementStep a.body (slice_index schedule i) (source a (take i schedule)) (source_step a.processes (slice_index schedule i) (source a (take i schedule))) step
stepped a schedule i inside before after step body at many made is =
    let p = slice_index schedule i in
    let now = source a (take i schedule) in
    let next : after.state ≡ source_step a.processes p now =
    made ∙ ap (λ n. source_step n p before.state) many ∙ ap (source_step a.processes p) at in (
      next ∙ sym (source_on a schedule i inside),
      subst (λ s. S.IsStatementStep a.body p now s step) next
          (subst (λ s. S.IsStatementStep a.body p s after.state step) at
          (subst (λ body. S.IsStatementStep body p before.state after.state step) body is)),
    )

pub code_stepped : (c : StepCode) (schedule : List ℕ) (i : ℕ) → i < length schedule → (before after : CodeRun) (step : InstructionStep)
    → before.code ≡ c → before.state ≡ run_of c.sizes c.instructions (take i schedule)
    → after.state ≡ code_step before.code.sizes.processes before.code.instructions (slice_index schedule i) before.state
    → I.IsInstructionStep before.code.instructions (slice_index schedule i) before.state after.state step
    → (after.state ≡ run_of c.sizes c.instructions (take (i + 1) schedule))
    × I.IsInstructionStep c.instructions (slice_index schedule i) (run_of c.sizes c.instructions (take i schedule))
    (code_step c.sizes.processes c.instructions (slice_index schedule i) (run_of c.sizes c.instructions (take i schedule))) step
code_stepped c schedule i inside before after step code at made is =
    let p = slice_index schedule i in
    let now = run_of c.sizes c.instructions (take i schedule) in
    let next : after.state ≡ code_step c.sizes.processes c.instructions p now =
    made ∙ ap (λ x. code_step x.sizes.processes x.instructions p before.state) code ∙ ap (code_step c.sizes.processes c.instructions p) at in (
      next ∙ sym (code_on c schedule i inside),
      subst (λ s. I.IsInstructionStep c.instructions p now s step) next
          (subst (λ s. I.IsInstructionStep c.instructions p s after.state step) at
          (subst (λ x. I.IsInstructionStep x.instructions p before.state after.state step) code is)),
    )

pub statements_more : (a : WholeProgram ℕ) (schedule : List ℕ) (i : ℕ) (steps new : List StatementStep) (step : StatementStep) → F.Statements a schedule i steps
    → i < length schedule → new ≡ steps ++ step ∷ []
    → S.IsStatementStep a.body (slice_index schedule i) (source a (take i schedule)) (source_step a.processes (slice_index schedule i) (source a (take i schedule))) step
    → F.Statements a schedule (i + 1) new
statements_more a schedule i steps new step so_far inside list is =
    subst (F.Statements a schedule (i + 1)) (sym list) (record {
      count = omega (arith, length-append steps (step ∷ []), so_far.count);
      each = each_more (λ k t. S.IsStatementStep a.body (slice_index schedule k) (source a (take k schedule)) (source_step a.processes (slice_index schedule k) (source a (take k schedule))) t)
          steps step so_far.each
          (subst (λ k. S.IsStatementStep a.body (slice_index schedule k) (source a (take k schedule)) (source_step a.processes (slice_index schedule k) (source a (take k schedule))) step)
          (sym so_far.count) is);
      processes = map_more (λ t. t.process) steps step ∙ ap (λ l. l ++ step.process ∷ []) so_far.processes
          ∙ ap (λ p. take i schedule ++ p ∷ []) is.process ∙ sym (take_more schedule i 0 inside);
      events = source_events [] steps step ∙ ap (told step.process step.act) so_far.events
          ∙ ap (λ p. told p step.act (source a (take i schedule)).events) is.process ∙ sym is.act
          ∙ ap (λ s. s.events) (sym (source_on a schedule i inside));
    })

pub instructions_more : (c : StepCode) (schedule : List ℕ) (i : ℕ) (steps new : List InstructionStep) (step : InstructionStep) → F.Instructions c schedule i steps
    → i < length schedule → new ≡ steps ++ step ∷ []
    → I.IsInstructionStep c.instructions (slice_index schedule i) (run_of c.sizes c.instructions (take i schedule))
    (code_step c.sizes.processes c.instructions (slice_index schedule i) (run_of c.sizes c.instructions (take i schedule))) step
    → F.Instructions c schedule (i + 1) new
instructions_more c schedule i steps new step so_far inside list is =
    subst (F.Instructions c schedule (i + 1)) (sym list) (record {
      count = omega (arith, length-append steps (step ∷ []), so_far.count);
      each = each_more (λ k t. I.IsInstructionStep c.instructions (slice_index schedule k) (run_of c.sizes c.instructions (take k schedule))
          (code_step c.sizes.processes c.instructions (slice_index schedule k) (run_of c.sizes c.instructions (take k schedule))) t)
          steps step so_far.each
          (subst (λ k. I.IsInstructionStep c.instructions (slice_index schedule k) (run_of c.sizes c.instructions (take k schedule))
          (code_step c.sizes.processes c.instructions (slice_index schedule k) (run_of c.sizes c.instructions (take k schedule))) step)
          (sym so_far.count) is);
    })

pub statements_none : (a : WholeProgram ℕ) (schedule : List ℕ) (steps : List StatementStep) → steps ≡ [] → F.Statements a schedule 0 steps
statements_none a schedule steps none = subst (F.Statements a schedule 0) (sym none) (record {
  count = refl;
  each = λ k step is. absurd (none-some step is);
  processes = refl;
  events = refl;
})

pub instructions_none : (c : StepCode) (schedule : List ℕ) → F.Instructions c schedule 0 []
instructions_none c schedule = record { count = refl; each = λ k step is. absurd (none-some step is) }
