-- Where a program can still end its code can, and where its code can the program can: `ends_law`.
--
-- All of it holds of any two states that match (`AllMatch`), and both maps lead to such states.
--   - What the code does from there the program does too (`down_runs`).
--   - What the program does from there the code follows, item by item (`follows`): the process steps alone until its
--     next step has ended, and the others stay where they are, also inside a stamp.
-- The difficulty is a process that is inside a stamp, with labels that others have changed since (`alone_from`): it loses
-- its exchange, begins the stamp again, and loads the labels that are there. From then on nobody writes, so it loses no
-- other one (`solo`).
use Rattle.std.proofs.Common.{◌≡◌, ℕ, zero, suc, ◌<◌, ◌≤◌, ⊎_elim, Bool, List, [], ◌∷◌, ◌++◌, All, replicate, refl, ap, sym, ◌∙◌, subst, arith, Option, Some, None}
use Rattle.std.specs.Prelude.{slice_get}
use Rattle.std.proofs.lemmas.List.Elements.{All-nil, All-append, All-replicate}
use Rattle.base.specs.Plain.{WholeProgram}
use Rattle.base.specs.declared.status.Status.TheVariants.{Running}
use Rattle.code_core.specs.declared.instr.Instr.{Instr}
use Rattle.tick_source.specs.Source as S
use Rattle.tick_source.specs.Source.{SourceProcess, SourceState}
use Rattle.code_machine.specs.Machine as C
use Rattle.code_machine.specs.Machine.{CodeProcess, CodeState}
use Rattle.tick_lower.specs.Lowered.{lowered, lowered_sizes}
use Rattle.tick_sim.specs.Maps.{dropped_from, dropped, lifted}
use Rattle.tick_sim.specs.Properties.{code_state_after}
use Rattle.tick_sim.specs.Ends.{have_stopped, statuses, code_statuses, EndAlike, EndsLaw}
use Rattle.tick_sim.proofs.Match.{Between, IsInside, Matches, inside}
use Rattle.tick_sim.proofs.Pairs.{first_at, first_none}
use Rattle.tick_sim.proofs.States.{MatchStates, seen_same, match_weaker, stopped_source, runs_or_not}
use Rattle.tick_sim.proofs.Dropped as D
use Rattle.tick_sim.proofs.Dropped.{AnyMatch, AllMatch, between_any, any_status, dropped_runs, dropped_matches}
use Rattle.tick_sim.proofs.Lifted.{run_append, Others, AloneStep, ends_step, has_less, has_lost, alone_step, solo, lifted_matches}
use Rattle.tick_sim.proofs.Maps.{dropped_lawful}

source_append : (n : ℕ) (t u : List ℕ) (s : SourceState) → S.source_run n (t ++ u) s ≡ S.source_run n u (S.source_run n t s)
source_append n [] u s = refl
source_append n (p ∷ t) u s = source_append n t u (S.source_step n p s)

module _ (n : ℕ) (code : List Instr) where
  -- some steps of process `p` alone end its next step
  abbrev EndsAlone : ℕ → SourceState → CodeState → Type 0
  EndsAlone p s d = (k : ℕ) × AllMatch n code (S.source_step n p s) (C.code_run n code (replicate k p) d)

  module _ (p : ℕ) (s : SourceState) (x : SourceProcess) (at_x : slice_get s.processes p ≡ Some x) (runs : x.status ≡ Running) where
    abbrev OthersMatch : CodeState → Type 0
    OthersMatch = MatchStates n (Others n code (AnyMatch n code) p) s

    -- of a process that has loaded no labels
    inside_ends : (m : ℕ) (d : CodeState) (y : CodeProcess) → slice_get d.processes p ≡ Some y → OthersMatch d
        → IsInside n code p m x y → EndsAlone p s d
    inside_ends m d y at_y others within =
        let alone =
        solo n code (AnyMatch n code) p (between_any n code p) s x at_x runs d.labels m m d y (omega arith) refl at_y others
        (inside within) in
        (alone.0, alone.2)

    -- one step, where those after it are known
    step_ends : (m : ℕ) (d : CodeState)
        → ((m' : ℕ) (y : CodeProcess) → suc m' ≤ m → slice_get (C.code_step n code p d).processes p ≡ Some y
        → OthersMatch (C.code_step n code p d) → Matches n code p D.Loaded m' x y → EndsAlone p s (C.code_step n code p d))
        → AloneStep n code (AnyMatch n code) p D.Loaded m x s d → EndsAlone p s d
    step_ends m d later (ends_step some commits after) = (1, after)
    step_ends m d later (has_less m' y less goes matches) =
        let more = later m' y less goes.here goes.others matches in
        (suc more.0, more.1)
    step_ends m d later (has_lost scratch y loaded lost goes within) =
        let more = inside_ends 3 (C.code_step n code p d) y goes.here goes.others within in
        (suc more.0, more.1)

    -- of one in any situation
    alone_from : (fuel m : ℕ) (d : CodeState) (y : CodeProcess) → m ≤ fuel → slice_get d.processes p ≡ Some y → OthersMatch d
        → Matches n code p D.Loaded m x y → EndsAlone p s d
    alone_from zero m d y few at_y others matches =
        step_ends m d (λ m' y' less. absurd (omega arith))
        (alone_step n code (AnyMatch n code) p (between_any n code p) s x at_x runs D.Loaded m d y at_y others tt matches)
    alone_from (suc fuel) m d y few at_y others matches =
        step_ends m d (λ m' y' less. alone_from fuel m' (C.code_step n code p d) y' (omega arith))
        (alone_step n code (AnyMatch n code) p (between_any n code p) s x at_x runs D.Loaded m d y at_y others tt matches)

  -- of any two states that match; where the process has stopped, no step does it
  ends_alone : (p : ℕ) (s : SourceState) (d : CodeState) → AllMatch n code s d → EndsAlone p s d
  ends_alone p s d all =
      case (slice_get d.processes p) refl
    where
      nothing : S.source_step n p s ≡ s → EndsAlone p s d
      nothing same = (0, subst (λ s'. AllMatch n code s' d) (sym same) all)

      case : (o : Option CodeProcess) → slice_get d.processes p ≡ o → EndsAlone p s d
      case None at_y =
          nothing (ap (S.step_of n p s) (first_none s.processes d.processes p all.processes.many at_y))
      case (Some y) at_y =
          let there = first_at s.processes d.processes p y all.processes.many at_y in
          let x : SourceProcess = there.0 in
          let any : AnyMatch n code p x y = all.processes.each p x y there.1 at_y in
          ⊎_elim
          (λ runs.
          alone_from p s x there.1 runs any.0 any.0 d y (omega arith) at_y
          (match_weaker n (AnyMatch n code) (Others n code (AnyMatch n code) p) s d (λ q x y h other. h) all) any.1)
          (λ has. nothing (ap (S.step_of n p s) there.1 ∙ stopped_source n p s x x.status has))
          (runs_or_not x.status)

  -- what the program does from here the code does
  follows : (P : ℕ → Type 0) (more : List ℕ) (s : SourceState) (d : CodeState) → AllMatch n code s d → All P more
      → (steps : List ℕ) × All P steps × AllMatch n code (S.source_run n more s) (C.code_run n code steps d)
  follows P [] s d all lawful = ([], All-nil P, all)
  follows P (p ∷ more) s d all lawful =
      let turn = ends_alone p s d all in
      let first : List ℕ = replicate turn.0 p in
      let later =
      follows P more (S.source_step n p s) (C.code_run n code first d) turn.1 (λ k x inside. lawful (suc k) x (omega arith)) in (
        first ++ later.0,
        All-append P first later.0 (All-replicate P turn.0 p (lawful 0 p (omega arith))) later.1,
        subst (AllMatch n code (S.source_run n (p ∷ more) s)) (sym (run_append n code first later.0 d)) later.2,
      )

-- A schedule of a program and one of its code that lead to states that match.
module _ (a : WholeProgram ℕ) (schedule steps : List ℕ)
    (all : AllMatch a.processes (lowered a) (S.source a schedule) (code_state_after a steps)) (P : ℕ → Type 0) (more : List ℕ) (lawful : All P more) where
  abbrev n : ℕ
  n = a.processes

  abbrev code : List Instr
  code = lowered a

  same_statuses : (next next' : List ℕ)
      → AllMatch n code (S.source_run n next (S.source a schedule)) (C.code_run n code next' (code_state_after a steps))
      → statuses a (schedule ++ next) ≡ code_statuses a (steps ++ next')
  same_statuses next next' after =
      ap S.statuses_of (source_append n schedule next (S.source_start a))
      ∙ sym (ap (λ o. o.statuses) (seen_same n (AnyMatch n code) _ _ after (any_status n code)))
      ∙ sym (ap C.statuses_of (run_append n code steps next' (C.code_start (lowered_sizes a))))

  -- what more the code does the program does too
  program_too : (next : List ℕ) × All P next × (statuses a (schedule ++ next) ≡ code_statuses a (steps ++ more))
  program_too =
      let d : CodeState = code_state_after a steps in
      let next : List ℕ = dropped_from n code more d in (
        next,
        dropped_lawful n code P more d lawful,
        same_statuses next more (dropped_runs n code more (S.source a schedule) d all),
      )

  -- and what more the program does the code
  code_too : (next : List ℕ) × All P next × (statuses a (schedule ++ more) ≡ code_statuses a (steps ++ next))
  code_too =
      let followed = follows n code P more (S.source a schedule) (code_state_after a steps) all lawful in (
        followed.0,
        followed.1,
        same_statuses more followed.0 followed.2,
      )

matching_end_alike : (a : WholeProgram ℕ) (asked : ℕ → Bool) (schedule steps : List ℕ)
    → AllMatch a.processes (lowered a) (S.source a schedule) (code_state_after a steps) → EndAlike a asked schedule steps
matching_end_alike a asked schedule steps all = record {
  can = (
    λ (more, lawful, ends).
        let next = code_too a schedule steps all (λ p. p < a.processes) more lawful in
        (next.0, next.1, ap (have_stopped asked a.processes) (sym next.2) ∙ ends),
    λ (more, lawful, ends).
        let next = program_too a schedule steps all (λ p. p < a.processes) more lawful in
        (next.0, next.1, ap (have_stopped asked a.processes) next.2 ∙ ends),
  );
  stuck = (
    λ stuck more.
        let next = program_too a schedule steps all (λ p. Unit {0}) more (λ k x inside. tt) in
        ap (have_stopped asked a.processes) (sym next.2) ∙ stuck next.0,
    λ stuck more.
        let next = code_too a schedule steps all (λ p. Unit {0}) more (λ k x inside. tt) in
        ap (have_stopped asked a.processes) next.2 ∙ stuck next.0,
  );
}

dropped_end_alike : (a : WholeProgram ℕ) (asked : ℕ → Bool) (steps : List ℕ) → EndAlike a asked (dropped (lowered_sizes a) (lowered a) steps) steps
dropped_end_alike a asked steps = matching_end_alike a asked (dropped (lowered_sizes a) (lowered a) steps) steps (dropped_matches a steps)

lifted_end_alike : (a : WholeProgram ℕ) (asked : ℕ → Bool) (schedule : List ℕ) → EndAlike a asked schedule (lifted (lowered_sizes a) (lowered a) schedule)
lifted_end_alike a asked schedule =
    let steps : List ℕ = lifted (lowered_sizes a) (lowered a) schedule in
    matching_end_alike a asked schedule steps
    (match_weaker a.processes (λ p. Between a.processes (lowered a)) (AnyMatch a.processes (lowered a)) (S.source a schedule)
    (code_state_after a steps) (between_any a.processes (lowered a)) (lifted_matches a schedule))

pub ends_law : EndsLaw
ends_law = record {
  dropped = dropped_end_alike;
  lifted = lifted_end_alike;
  always = λ a asked. (
    λ always steps. (dropped_end_alike a asked steps).can.0 (always (dropped (lowered_sizes a) (lowered a) steps)),
    λ always schedule. (lifted_end_alike a asked schedule).can.1 (always (lifted (lowered_sizes a) (lowered a) schedule)),
  );
}
