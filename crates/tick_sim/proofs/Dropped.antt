-- The code matches the program under the schedule without the steps that end none: each step of the code
-- either ends a step of the program, which the program then makes too, or leaves the program where it is.
-- Of the labels that a stamp has loaded nothing has to be known, since an exchange that is won stamps the
-- labels that are there.
use Rattle.std.proofs.Common.{◌≡◌, ℕ, Bool, true, false, if◌then◌else◌, List, [], ◌∷◌, refl, sym, ◌∙◌, subst, ⊎_elim, Option, Some, None}
use Rattle.std.specs.Prelude.{slice_get}
use Rattle.base.specs.Plain.{WholeProgram}
use Rattle.base.specs.declared.status.Status.TheVariants.{Running}
use Rattle.code_core.specs.declared.instr.Instr.{Instr}
use Rattle.word_core.specs.Stamps.{Labels}
use Rattle.tick_source.specs.Source as S
use Rattle.tick_source.specs.Source.{SourceProcess, SourceState}
use Rattle.code_machine.specs.Machine as C
use Rattle.code_machine.specs.Machine.{CodeProcess, CodeState, made}
use Rattle.language_properties.specs.Laws.{IsSeenAlike}
use Rattle.language_properties.specs.Seen.{seen_of}
use Rattle.tick_lower.specs.Lowered.{lowered, lowered_sizes}
use Rattle.tick_sim.specs.Maps.{commit_of, is_commit, dropped_from, dropped}
use Rattle.tick_sim.specs.Laws.{DropLaw}
use Rattle.tick_sim.specs.Properties.{code_state_after, seen_by_labels}
use Rattle.tick_sim.proofs.Match.{Matches, NextStep, Unseen, inside, together, apart, loses, Between}
use Rattle.tick_sim.proofs.Step.{between_matches, match_status, process_step}
use Rattle.tick_sim.proofs.Pairs.{first_at}
use Rattle.tick_sim.proofs.States.{MatchStates, seen_same, match_weaker, commit_runs, both_after, code_after, stopped_step, runs_or_not}
use Rattle.tick_sim.proofs.SeenAlike.{matching_alike}
use Rattle.tick_sim.proofs.Start.{start_between}

-- of the labels that a stamp has loaded nothing is known
abbrev pub Loaded : Labels → Type 0
Loaded labels = Unit {0}

module _ (n : ℕ) (code : List Instr) where
  -- a process in any situation
  abbrev pub AnyMatch : ℕ → SourceProcess → CodeProcess → Type 0
  AnyMatch p x y = (m : ℕ) × Matches n code p Loaded m x y

  -- two states, with each process in any situation
  abbrev pub AllMatch : SourceState → CodeState → Type 0
  AllMatch = MatchStates n AnyMatch

  pub between_any : (p : ℕ) (x : SourceProcess) (y : CodeProcess) → Between n code x y → AnyMatch p x y
  between_any p x y between =
      let matches = between_matches n code p Loaded x y between in
      (matches.0, matches.2)

  -- a step of the code ends a step of the program, which is made too, or leaves the program as it is
  data StateStep (p : ℕ) (s : SourceState) (d' : CodeState) (ends : Bool) : Type 0 where
    both_make : ends ≡ true → AllMatch (S.source_step n p s) d' → StateStep p s d' ends
    code_makes : ends ≡ false → AllMatch s d' → StateStep p s d' ends

  running_step : (p : ℕ) (s : SourceState) (d : CodeState) (x : SourceProcess) (y : CodeProcess)
      → slice_get s.processes p ≡ Some x → slice_get d.processes p ≡ Some y → AllMatch s d → y.status ≡ Running
      → StateStep p s (C.code_step n code p d) (is_commit n code p d)
  running_step p s d x y at_x at_y all runs =
      let any : AnyMatch p x y = all.processes.each p x y at_x at_y in
      case any.0 (match_status n code p Loaded any.0 x y any.1 ∙ runs)
      (process_step n code p Loaded any.0 x y s d all.agrees all.same_rows tt any.1 runs)
    where
      unseen_by : Unseen n code p d.labels d.rows (C.did n p code y) (slice_get code y.place)
          → AnyMatch p x (made d.labels d.rows (C.did n p code y)).process
          → StateStep p s (C.code_step n code p d) (is_commit n code p d)
      unseen_by unseen any =
          code_makes (commit_runs n code p d y at_y runs ∙ unseen.0)
          (code_after n code p s d x y at_x at_y runs AnyMatch AnyMatch all (λ q x y other h. h) unseen.1 unseen.2 unseen.3 any)

      case : (m : ℕ) → x.status ≡ Running → NextStep n code p Loaded m x y s d
          → StateStep p s (C.code_step n code p d) (is_commit n code p d)
      case m source_runs (together some step) =
          both_make (commit_runs n code p d y at_y runs ∙ step.ends)
          (both_after n code p s d x y at_x at_y runs AnyMatch AnyMatch all (λ q x y other h. h) source_runs step
          (between_any p))
      case m source_runs (apart unseen m' less matches) = unseen_by unseen (m', matches)
      case m source_runs (loses unseen scratch loaded lost begun) = unseen_by unseen (3, inside begun)

  state_step : (p : ℕ) (s : SourceState) (d : CodeState) → AllMatch s d
      → StateStep p s (C.code_step n code p d) (is_commit n code p d)
  state_step p s d all =
      case (slice_get d.processes p) refl
    where
      case : (o : Option CodeProcess) → slice_get d.processes p ≡ o
          → StateStep p s (C.code_step n code p d) (is_commit n code p d)
      case None at_y =
          subst (λ o. StateStep p s (C.step_of n code p d o) (commit_of n code p d o)) (sym at_y) (code_makes refl all)
      case (Some y) at_y =
          ⊎_elim
          (λ runs.
          let there = first_at s.processes d.processes p y all.processes.many at_y in
          running_step p s d there.0 y there.1 at_y all runs)
          (λ has.
          let nothing = stopped_step n code p d y y.status has in
          subst (λ o. StateStep p s (C.step_of n code p d o) (commit_of n code p d o)) (sym at_y)
          (code_makes nothing.1 (subst (AllMatch s) (sym nothing.0) all)))
          (runs_or_not y.status)

  pub dropped_runs : (schedule : List ℕ) (s : SourceState) (d : CodeState) → AllMatch s d
      → AllMatch (S.source_run n (dropped_from n code schedule d) s) (C.code_run n code schedule d)
  dropped_runs [] s d all = all
  dropped_runs (p ∷ schedule) s d all =
      let next : CodeState = C.code_step n code p d in
      let later : List ℕ = dropped_from n code schedule next in
      elim (state_step p s d all) as (λ w. AllMatch
      (S.source_run n (if is_commit n code p d then p ∷ later else later) s) (C.code_run n code schedule next)) [
        | both_make ends after ↦
            subst (λ b. AllMatch (S.source_run n (if b then p ∷ later else later) s) (C.code_run n code schedule next))
            (sym ends)
            (dropped_runs schedule (S.source_step n p s) next after)
        | code_makes ends after ↦
            subst (λ b. AllMatch (S.source_run n (if b then p ∷ later else later) s) (C.code_run n code schedule next))
            (sym ends)
            (dropped_runs schedule s next after)
      ]

-- the code matches the program after the schedule that its own one stands for
pub dropped_matches : (a : WholeProgram ℕ) (schedule : List ℕ)
    → AllMatch a.processes (lowered a) (S.source a (dropped (lowered_sizes a) (lowered a) schedule)) (code_state_after a schedule)
dropped_matches a schedule =
    let n : ℕ = a.processes in
    let code : List Instr = lowered a in
    dropped_runs n code schedule (S.source_start a) (C.code_start (lowered_sizes a))
    (match_weaker n (λ p. Between n code) (AnyMatch n code) (S.source_start a) (C.code_start (lowered_sizes a))
    (between_any n code) (start_between a))

pub any_status : (n : ℕ) (code : List Instr) (p : ℕ) (x : SourceProcess) (y : CodeProcess) → AnyMatch n code p x y → x.status ≡ y.status
any_status n code p x y any = match_status n code p Loaded any.0 x y any.1

pub drop_law : DropLaw
drop_law a schedule =
    seen_same a.processes (AnyMatch a.processes (lowered a)) (S.source a (dropped (lowered_sizes a) (lowered a) schedule))
    (code_state_after a schedule) (dropped_matches a schedule) (any_status a.processes (lowered a))

pub dropped_alike : (a : WholeProgram ℕ) (schedule : List ℕ)
    → IsSeenAlike (seen_by_labels (code_state_after a schedule)) (seen_of (S.source a (dropped (lowered_sizes a) (lowered a) schedule)))
dropped_alike a schedule =
    matching_alike a.processes (AnyMatch a.processes (lowered a)) (S.source a (dropped (lowered_sizes a) (lowered a) schedule))
    (code_state_after a schedule) (dropped_matches a schedule) (any_status a.processes (lowered a))
