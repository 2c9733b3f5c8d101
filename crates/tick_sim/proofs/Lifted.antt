-- A process that steps alone from between two steps ends its next step within the length of the code, since nobody
-- writes the labels that its stamp has loaded, so no exchange is lost; all stand between two steps again. So a
-- schedule of the program leads through its code, and both show the same.
--
-- Three layers, from one process to a whole schedule:
--
--   - `solo`, by induction on the steps that are left (`fuel`). Process `p` of the code matches that of the
--     program, and at most `m` of its steps end the next step of the program (`Matches`, with `m` at most the
--     fuel). Its next step (`alone_step`) is either made together with the program, and that is the end, or apart
--     from it: then fewer steps are left, or an exchange was lost. The last can't be (`not_lost`): what the stamp
--     has loaded are the labels that are there, which is what `Loaded` says here, and nobody but `p` steps. Between
--     two steps `m` is at most the length of the code (`between_matches`), so that much fuel is enough.
--   - `turn`, for one item of the schedule. A process that runs moves in this way. One that has stopped, or that
--     there is not, takes no step, and nothing changes, in the program as in the code. The map `lifted` is defined by
--     a search for the first step that ends one (`steps_to_commit`); `commits_now` and `commits_later` unroll that
--     search along `solo`.
--   - `up_runs`, by induction on the schedule. After each item all processes stand between two steps again
--     (`AllBetween`), so the next item can begin; and states that match show the same (`seen_same`).
--
-- While `p` is on its way the others are only known to be related as before (`Others`), here to stand between two
-- steps. They make no step, and what `p` does alone changes nothing of theirs; what it writes at the end, labels or a
-- register, the program writes too.
use Rattle.std.proofs.Common.{◌≡◌, ℕ, zero, suc, ◌≤◌, ⊎_elim, Bool, true, false, List, [], ◌∷◌, ◌++◌, length, replicate, refl, ap, sym, ◌∙◌, subst, arith, Option, Some, None}
use Rattle.std.specs.Prelude.{◌≢◌, slice_get}
use Rattle.std.proofs.lemmas.Bool.{both_ways}
use Rattle.base.specs.Plain.{WholeProgram}
use Rattle.base.specs.declared.status.Status.{Status}
use Rattle.base.specs.declared.status.Status.TheVariants.{Running, Ended, Trapped}
use Rattle.code_core.specs.declared.instr.Instr.{Instr}
use Rattle.word_core.specs.Stamps.{Labels}
use Rattle.tick_source.specs.Source as S
use Rattle.tick_source.specs.Source.{SourceProcess, SourceState}
use Rattle.code_machine.specs.Machine as C
use Rattle.code_machine.specs.Machine.{CodeProcess, CodeState, made}
use Rattle.code_machine.proofs.Offered.{same_self}
use Rattle.language_properties.specs.Laws.{IsSeenAlike}
use Rattle.language_properties.specs.Seen.{seen_of}
use Rattle.tick_lower.specs.Lowered.{lowered, lowered_sizes}
use Rattle.tick_sim.specs.Maps.{commit_of, is_commit, one_more, steps_to_commit, repeated, steps_of, lifted_from, lifted}
use Rattle.tick_sim.specs.Laws.{LiftLaw, kept_as, kept_of}
use Rattle.tick_sim.specs.Properties.{code_state_after, seen_by_labels}
use Rattle.tick_sim.proofs.Match.{HasStopped, Between, over, rests, IsInside, Unseen, Matches, NextStep, together, apart, loses}
use Rattle.tick_sim.proofs.Step.{between_matches, match_status, process_step}
use Rattle.tick_sim.proofs.Pairs.{get_set_same, first_at, first_none}
use Rattle.tick_sim.proofs.States.{MatchStates, AllBetween, seen_same, match_weaker, commit_runs, code_runs, both_after, code_after, stopped_step, stopped_source, runs_or_not}
use Rattle.tick_sim.proofs.SeenAlike.{matching_alike}
use Rattle.tick_sim.proofs.Start.{start_between}

-- one schedule, then the other
pub run_append : (n : ℕ) (code : List Instr) (t u : List ℕ) (d : CodeState)
    → C.code_run n code (t ++ u) d ≡ C.code_run n code u (C.code_run n code t d)
run_append n code [] u d = refl
run_append n code (p ∷ t) u d = run_append n code t u (C.code_step n code p d)

-- the steps to a commit, once it is known whether the next one is
pub steps_by : (n : ℕ) (code : List Instr) (p most : ℕ) (d : CodeState) (b : Bool) → is_commit n code p d ≡ b
    → steps_to_commit n code p (suc most) d
    ≡ elim b as (λ _. Option ℕ) [
      | true ↦ Some 1
      | false ↦ one_more
          (steps_to_commit n code p most (C.code_step n code p d))
    ]
steps_by n code p most d b is =
    ap (λ b. elim b as (λ _. Option ℕ) [
      | true ↦ Some 1
      | false ↦ one_more
          (steps_to_commit n code p most (C.code_step n code p d))
    ]) is

-- where a step changes nothing and ends none there is no step to a commit
pub never_commits : (n : ℕ) (code : List Instr) (p most : ℕ) (d : CodeState) → is_commit n code p d ≡ false
    → C.code_step n code p d ≡ d → steps_to_commit n code p most d ≡ None
never_commits n code p zero d quiet same = refl
never_commits n code p (suc most) d quiet same =
    steps_by n code p most d false quiet
    ∙ ap one_more (ap (steps_to_commit n code p most) same ∙ never_commits n code p most d quiet same)

-- a step that ends one, or one more before it
pub commits_now : (n : ℕ) (code : List Instr) (p most : ℕ) (d : CodeState) → is_commit n code p d ≡ true
    → steps_to_commit n code p (suc most) d ≡ Some 1
commits_now n code p most d ends = steps_by n code p most d true ends

commits_later : (n : ℕ) (code : List Instr) (p most k : ℕ) (d : CodeState) → is_commit n code p d ≡ false
    → steps_to_commit n code p most (C.code_step n code p d) ≡ Some k
    → steps_to_commit n code p (suc most) d ≡ Some (suc k)
commits_later n code p most k d quiet later = steps_by n code p most d false quiet ∙ ap one_more later

-- the labels that a stamp has loaded are these
abbrev pub Loaded : Labels → Labels → Type 0
Loaded labels loaded = loaded ≡ labels

module _ (n : ℕ) (code : List Instr) where
  -- Process `p` steps alone, and the others are related in some way.
  module _ (R : ℕ → SourceProcess → CodeProcess → Type 0) (p : ℕ) where
    abbrev pub Others : ℕ → SourceProcess → CodeProcess → Type 0
    Others q x y = q ≢ p → R q x y

    -- so many steps of process `p` alone, at most `fuel`, end its next step
    abbrev pub AloneWithin : ℕ → SourceState → CodeState → Type 0
    AloneWithin fuel s d =
        (k : ℕ) × (steps_to_commit n code p fuel d ≡ Some k)
        × MatchStates n R (S.source_step n p s) (C.code_run n code (replicate k p) d)

    -- after a step that ended none process `p` is `y`, and all else is as it was
    pub record GoesOn (s : SourceState) (d d' : CodeState) (y : CodeProcess) : Type 0 where
      pub quiet : is_commit n code p d ≡ false
      pub labels : d'.labels ≡ d.labels
      pub here : slice_get d'.processes p ≡ Some y
      pub others : MatchStates n Others s d'

    -- One step of process `p`, of which `x` is in the program: it ends a step of the program, or there is less to do, or
    -- an exchange was lost.
    pub data AloneStep (Known : Labels → Type 0) (m : ℕ) (x : SourceProcess) (s : SourceState) (d : CodeState) : Type 0 where
      ends_step : 1 ≤ m → is_commit n code p d ≡ true → MatchStates n R (S.source_step n p s) (C.code_step n code p d)
          → AloneStep Known m x s d
      has_less : (m' : ℕ) (y : CodeProcess) → suc m' ≤ m → GoesOn s d (C.code_step n code p d) y
          → Matches n code p Known m' x y → AloneStep Known m x s d
      has_lost : (scratch : Labels) (y : CodeProcess) → Known scratch → C.same_labels d.labels scratch ≡ false
          → GoesOn s d (C.code_step n code p d) y → IsInside n code p 3 x y → AloneStep Known m x s d

    -- what becomes of process `p`, which is `y`, in its next step
    abbrev after_step : CodeState → CodeProcess → CodeProcess
    after_step d y = (made d.labels d.rows (C.did n p code y)).process

    -- It runs in the program, and any two that stand between two steps are related.
    module _ (between : (x : SourceProcess) (y : CodeProcess) → Between n code x y → R p x y)
        (s : SourceState) (x : SourceProcess) (at_x : slice_get s.processes p ≡ Some x) (source_runs : x.status ≡ Running) where
      pub alone_step : (Known : Labels → Type 0) (m : ℕ) (d : CodeState) (y : CodeProcess) → slice_get d.processes p ≡ Some y
          → MatchStates n Others s d → Known d.labels → Matches n code p Known m x y → AloneStep Known m x s d
      alone_step Known m d y at_y others loaded matches =
          let runs : y.status ≡ Running = sym (match_status n code p Known m x y matches) ∙ source_runs in
          case runs (process_step n code p Known m x y s d others.agrees others.same_rows loaded matches runs)
        where
          goes_on : y.status ≡ Running → Unseen n code p d.labels d.rows (C.did n p code y) (slice_get code y.place)
              → GoesOn s d (C.code_step n code p d) (after_step d y)
          goes_on runs unseen =
              let is : C.code_step n code p d ≡ C.state_after p d (C.did n p code y) = code_runs n code p d y at_y runs in
              record {
                quiet = commit_runs n code p d y at_y runs ∙ unseen.0;
                labels = ap (λ d. d.labels) is ∙ unseen.1;
                here = ap (λ d. slice_get d.processes p) is ∙ get_set_same d.processes p (after_step d y) y at_y;
                others = code_after n code p s d x y at_x at_y runs Others Others others (λ q x y other h. h)
                    unseen.1 unseen.2 unseen.3 (λ other. absurd (other refl));
              }

          case : y.status ≡ Running → NextStep n code p Known m x y s d → AloneStep Known m x s d
          case runs (together some step) =
              ends_step some (commit_runs n code p d y at_y runs ∙ step.ends)
              (both_after n code p s d x y at_x at_y runs Others R others (λ q x y other h. h other) source_runs step between)
          case runs (apart unseen m' less matches) = has_less m' (after_step d y) less (goes_on runs unseen) matches
          case runs (loses unseen scratch loaded lost begun) = has_lost scratch (after_step d y) loaded lost (goes_on runs unseen) begun

      -- Where the labels that the stamp has loaded are those that are there, no exchange is lost, since nobody else steps.
      module _ (labels : Labels) where
        not_lost : (d : CodeState) (scratch : Labels) → d.labels ≡ labels → Loaded labels scratch
            → C.same_labels d.labels scratch ≡ false → ⊥
        not_lost d scratch same loaded lost =
            both_ways (C.same_labels d.labels scratch) lost
            (ap (C.same_labels d.labels) (loaded ∙ sym same) ∙ same_self d.labels)

        pub solo : (fuel m : ℕ) (d : CodeState) (y : CodeProcess) → m ≤ fuel → d.labels ≡ labels
            → slice_get d.processes p ≡ Some y → MatchStates n Others s d → Matches n code p (Loaded labels) m x y
            → AloneWithin fuel s d
        solo zero m d y few same at_y others matches =
            elim (alone_step (Loaded labels) m d y at_y others same matches) as (λ w. AloneWithin 0 s d) [
              | ends_step some commits after ↦ absurd (omega arith)
              | has_less m' y' less goes matches' ↦ absurd (omega arith)
              | has_lost scratch y' loaded lost goes begun ↦ absurd (not_lost d scratch same loaded lost)
            ]
        solo (suc fuel) m d y few same at_y others matches =
            elim (alone_step (Loaded labels) m d y at_y others same matches) as (λ w. AloneWithin (suc fuel) s d) [
              | ends_step some commits after ↦ (1, commits_now n code p fuel d commits, after)
              | has_less m' y' less goes matches' ↦
                  let later =
                  solo fuel m' (C.code_step n code p d) y' (omega arith) (goes.labels ∙ same) goes.here goes.others matches' in (
                    suc later.0,
                    commits_later n code p fuel later.0 d goes.quiet later.1,
                    later.2,
                  )
              | has_lost scratch y' loaded lost goes begun ↦ absurd (not_lost d scratch same loaded lost)
            ]

  -- so many steps of process `p` alone, at most `fuel`, end its next step, and all stand between two steps again
  abbrev pub EndsWithin : ℕ → ℕ → SourceState → CodeState → Type 0
  EndsWithin fuel p = AloneWithin (λ p. Between n code) p fuel

  -- What one item of a schedule of the program is in the code: steps that end just one of the program,
  -- or nothing, where the process has stopped.
  pub data Turn (p : ℕ) (s : SourceState) (d : CodeState) : Type 0 where
    moves : EndsWithin (length code) p s d → ((later : List ℕ) → kept_of p (slice_get s.processes p) later ≡ p ∷ later)
        → Turn p s d
    stays : ((fuel : ℕ) → steps_to_commit n code p fuel d ≡ None)
        → ((later : List ℕ) → kept_of p (slice_get s.processes p) later ≡ later) → S.source_step n p s ≡ s → Turn p s d

  -- a process between two steps that runs
  pub running_ends : (p : ℕ) (s : SourceState) (d : CodeState) (x : SourceProcess) (y : CodeProcess)
      → AllBetween n code s d → slice_get s.processes p ≡ Some x → slice_get d.processes p ≡ Some y → x.status ≡ Running
      → EndsWithin (length code) p s d
  running_ends p s d x y all at_x at_y runs =
      let matches = between_matches n code p (Loaded d.labels) x y (all.processes.each p x y at_x at_y) in
      solo (λ p. Between n code) p (λ x y between. between) s x at_x runs d.labels (length code) matches.0 d y matches.1 refl at_y
      (match_weaker n (λ q. Between n code) (Others (λ p. Between n code) p) s d (λ q x y between other. between) all) matches.2

  kept_none : (p : ℕ) (status : Status) (later : List ℕ) → HasStopped status → kept_as p status later ≡ later
  kept_none p Running later has = absurd has
  kept_none p Ended later has = refl
  kept_none p (Trapped t) later has = refl

  pub between_status : (x : SourceProcess) (y : CodeProcess) → Between n code x y → x.status ≡ y.status
  between_status x y (over same has) = same
  between_status x y (rests alike stack stands) = alike.0 ∙ sym alike.1

  pub turn : (p : ℕ) (s : SourceState) (d : CodeState) → AllBetween n code s d → Turn p s d
  turn p s d all =
      case (slice_get d.processes p) refl
    where
      case : (o : Option CodeProcess) → slice_get d.processes p ≡ o → Turn p s d
      case None at_y =
          let at_x : slice_get s.processes p ≡ None = first_none s.processes d.processes p all.processes.many at_y in
          stays (λ fuel. never_commits n code p fuel d (ap (commit_of n code p d) at_y)
          (ap (C.step_of n code p d) at_y))
          (λ later. ap (λ o. kept_of p o later) at_x) (ap (S.step_of n p s) at_x)
      case (Some y) at_y =
          let there = first_at s.processes d.processes p y all.processes.many at_y in
          let x : SourceProcess = there.0 in
          let same : x.status ≡ y.status = between_status x y (all.processes.each p x y there.1 at_y) in
          ⊎_elim
          (λ runs.
          moves (running_ends p s d x y all there.1 at_y runs)
          (λ later. ap (λ o. kept_of p o later) there.1 ∙ ap (λ status. kept_as p status later) runs))
          (λ has.
          let nothing = stopped_step n code p d y y.status (subst HasStopped same has) in
          stays (λ fuel. never_commits n code p fuel d (ap (commit_of n code p d) at_y ∙ nothing.1)
          (ap (C.step_of n code p d) at_y ∙ nothing.0))
          (λ later. ap (λ o. kept_of p o later) there.1 ∙ kept_none p x.status later has)
          (ap (S.step_of n p s) there.1 ∙ stopped_source n p s x x.status has))
          (runs_or_not x.status)

  -- a schedule of the program, and the one that leads through the code
  lifted_runs : (schedule : List ℕ) (s : SourceState) (d : CodeState) → AllBetween n code s d
      → AllBetween n code (S.source_run n schedule s) (C.code_run n code (lifted_from n code schedule d) d)
  lifted_runs [] s d all = all
  lifted_runs (p ∷ schedule) s d all =
      elim (turn p s d all) as (λ w. AllBetween n code (S.source_run n (p ∷ schedule) s)
      (C.code_run n code (lifted_from n code (p ∷ schedule) d) d)) [
        | moves (k, steps, after) kept ↦
            let is : steps_of n code p d ≡ replicate k p = ap (repeated p) steps in
            let next : CodeState = C.code_run n code (replicate k p) d in
            subst (λ t. AllBetween n code (S.source_run n (p ∷ schedule) s)
            (C.code_run n code (t ++ lifted_from n code schedule (C.code_run n code t d)) d)) (sym is)
            (subst (AllBetween n code (S.source_run n (p ∷ schedule) s))
            (sym (run_append n code (replicate k p) (lifted_from n code schedule next) d))
            (lifted_runs schedule (S.source_step n p s) next after))
        | stays steps kept same ↦
            let is : steps_of n code p d ≡ [] = ap (repeated p) (steps (length code)) in
            subst (λ t. AllBetween n code (S.source_run n (p ∷ schedule) s)
            (C.code_run n code (t ++ lifted_from n code schedule (C.code_run n code t d)) d)) (sym is)
            (subst (λ s'. AllBetween n code (S.source_run n schedule s')
            (C.code_run n code (lifted_from n code schedule d) d)) (sym same)
            (lifted_runs schedule s d all))
      ]

-- the program matches its code after the schedule that leads through it
pub lifted_matches : (a : WholeProgram ℕ) (schedule : List ℕ)
    → AllBetween a.processes (lowered a) (S.source a schedule) (code_state_after a (lifted (lowered_sizes a) (lowered a) schedule))
lifted_matches a schedule = lifted_runs a.processes (lowered a) schedule (S.source_start a) (C.code_start (lowered_sizes a)) (start_between a)

pub lift_law : LiftLaw
lift_law a schedule =
    sym (seen_same a.processes (λ p. Between a.processes (lowered a)) (S.source a schedule)
    (code_state_after a (lifted (lowered_sizes a) (lowered a) schedule)) (lifted_matches a schedule)
    (λ p. between_status a.processes (lowered a)))

pub lifted_alike : (a : WholeProgram ℕ) (schedule : List ℕ)
    → IsSeenAlike (seen_by_labels (code_state_after a (lifted (lowered_sizes a) (lowered a) schedule))) (seen_of (S.source a schedule))
lifted_alike a schedule =
    matching_alike a.processes (λ p. Between a.processes (lowered a)) (S.source a schedule)
    (code_state_after a (lifted (lowered_sizes a) (lowered a) schedule)) (lifted_matches a schedule)
    (λ p. between_status a.processes (lowered a))
