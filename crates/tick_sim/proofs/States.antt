-- A state of the code that matches a state of the program: labels and tickets agree, rows and events are the
-- same, and each two processes are related. One step of both keeps this where both did the same, and one of
-- the code alone where nobody sees it.
use Rattle.std.proofs.Common.{◌≡◌, ℕ, ◌⊎◌, inl, inr, false, List, map, refl, ap, sym, ◌∙◌, subst, Option, Some, None}
use Rattle.std.specs.Prelude.{◌≢◌, slice_get}
use Rattle.base.specs.declared.status.Status.{Status}
use Rattle.base.specs.declared.status.Status.TheVariants.{Running, Ended, Trapped}
use Rattle.base.specs.declared.event.Act.{Act}
use Rattle.base.specs.Observables.{told}
use Rattle.code_core.specs.declared.instr.Instr.{Instr}
use Rattle.word_core.specs.Agreement.{Agrees}
use Rattle.tick_source.specs.Source as S
use Rattle.tick_source.specs.Source.{SourceProcess, SourceState}
use Rattle.code_machine.specs.Machine as C
use Rattle.code_machine.specs.Machine.{CodeProcess, CodeState, CodeStep, made, labels_left, rows_left}
use Rattle.tick_sim.specs.Maps.{ended_at, commit_as, commit_of, is_commit}
use Rattle.tick_sim.proofs.Match.{HasStopped, Between, SameStep}
use Rattle.tick_sim.proofs.Pairs.{Pairs, both_written, second_written, map_same}

pub record MatchStates (n : ℕ) (R : ℕ → SourceProcess → CodeProcess → Type 0) (s : SourceState) (d : CodeState) : Type
    0 where
  pub agrees : Agrees n s.tickets d.labels
  pub same_rows : s.rows ≡ d.rows
  pub same_events : s.events ≡ d.events
  pub processes : Pairs R s.processes d.processes

-- each process stands between two steps
abbrev pub AllBetween : ℕ → List Instr → SourceState → CodeState → Type 0
AllBetween n code = MatchStates n (λ p. Between n code)

-- what others see is the same, where each two statuses are
pub seen_same : (n : ℕ) (R : ℕ → SourceProcess → CodeProcess → Type 0) (s : SourceState) (d : CodeState)
    → MatchStates n R s d
    → ((p : ℕ) (x : SourceProcess) (y : CodeProcess) → R p x y → x.status ≡ y.status)
    → C.observables d ≡ S.observables s
seen_same n R s d match same =
    let statuses : map (λ x. x.status) s.processes ≡ map (λ y. y.status) d.processes =
    map_same (λ x. x.status) (λ y. y.status) s.processes d.processes (record {
      many = match.processes.many;
      each = λ p x y at_x at_y. same p x y (match.processes.each p x y at_x at_y);
    }) in
    λ i. record { events = sym match.same_events i; rows = sym match.same_rows i; statuses = sym statuses i }

-- related in one way, and so in another
pub match_weaker : (n : ℕ) (R R' : ℕ → SourceProcess → CodeProcess → Type 0) (s : SourceState) (d : CodeState)
    → ((p : ℕ) (x : SourceProcess) (y : CodeProcess) → R p x y → R' p x y) → MatchStates n R s d → MatchStates n R' s d
match_weaker n R R' s d weaker match = record {
  agrees = match.agrees;
  same_rows = match.same_rows;
  same_events = match.same_events;
  processes = record {
    many = match.processes.many;
    each = λ p x y at_x at_y. weaker p x y
        (match.processes.each p x y at_x at_y);
  };
}

-- A process of the code that runs, and whether its step ends one of the program.
module _ (n : ℕ) (code : List Instr) (p : ℕ) (d : CodeState) (y : CodeProcess) (at_y : slice_get d.processes p ≡ Some y)
    (runs : y.status ≡ Running) where
  pub code_runs : C.code_step n code p d ≡ C.state_after p d (C.did n p code y)
  code_runs = ap (C.step_of n code p d) at_y ∙ ap (C.step_as n code p d y) runs

  pub commit_runs : is_commit n code p d
      ≡ ended_at (slice_get code y.place) (made d.labels d.rows (C.did n p code y)).act
  commit_runs = ap (commit_of n code p d) at_y ∙ ap (commit_as n code p d y) runs

-- Process `p` of the program, and of the code, which runs, and what the next step of each does.
module _ (n : ℕ) (code : List Instr) (p : ℕ) (s : SourceState) (d : CodeState) (x : SourceProcess) (y : CodeProcess)
    (at_x : slice_get s.processes p ≡ Some x) (at_y : slice_get d.processes p ≡ Some y)
    (runs : y.status ≡ Running) where
  abbrev source_did : S.SourceStep
  source_did = S.did n p s.tickets s.rows x.variables x.scans x.rest

  abbrev code_did : CodeStep
  code_did = C.did n p code y

  module _ (R R' : ℕ → SourceProcess → CodeProcess → Type 0) (match : MatchStates n R s d)
      (keep : (q : ℕ) (x : SourceProcess) (y : CodeProcess) → q ≢ p → R q x y → R' q x y) where
    -- both make the same step
    pub both_after : x.status ≡ Running → SameStep n code p d.labels d.rows source_did code_did (slice_get code y.place)
        → ((x : SourceProcess) (y : CodeProcess) → Between n code x y → R' p x y)
        → MatchStates n R' (S.source_step n p s) (C.code_step n code p d)
    both_after source_runs step related =
        let act : Option Act = (made d.labels d.rows code_did).act in
        let y' : CodeProcess = (made d.labels d.rows code_did).process in
        let after : MatchStates n R' (S.state_after p s source_did) (C.state_after p d code_did) = record {
          agrees = step.agrees;
          same_rows = step.same_rows;
          same_events = ap (λ act. told p act s.events) step.same_act ∙ ap (told p act) match.same_events;
          processes = both_written R R' p s.processes d.processes keep match.processes source_did.process y'
              (related source_did.process y' step.between);
        } in
        subst (λ s'. MatchStates n R' s' (C.code_step n code p d))
        (sym (ap (S.step_of n p s) at_x ∙ ap (S.step_as n p s x) source_runs))
        (subst (MatchStates n R' (S.state_after p s source_did)) (sym (code_runs n code p d y at_y runs)) after)

    -- the code makes a step that nobody sees
    pub code_after : labels_left p code_did d.labels ≡ d.labels → rows_left p code_did d.rows ≡ d.rows
        → (made d.labels d.rows code_did).act ≡ None → R' p x (made d.labels d.rows code_did).process
        → MatchStates n R' s (C.code_step n code p d)
    code_after labels rows act related =
        let after : MatchStates n R' s (C.state_after p d code_did) = record {
          agrees = subst (Agrees n s.tickets) (sym labels) match.agrees;
          same_rows = match.same_rows ∙ sym rows;
          same_events = match.same_events ∙ ap (λ act. told p act d.events) (sym act);
          processes = second_written R R' p s.processes d.processes keep match.processes x
              (made d.labels d.rows code_did).process at_x related;
        } in
        subst (MatchStates n R' s) (sym (code_runs n code p d y at_y runs)) after

-- a process that has stopped, or that there is not, changes nothing and ends no step
pub stopped_step : (n : ℕ) (code : List Instr) (p : ℕ) (d : CodeState) (y : CodeProcess) (status : Status)
    → HasStopped status
    → (C.step_as n code p d y status ≡ d) × (commit_as n code p d y status ≡ false)
stopped_step n code p d y Running has = absurd has
stopped_step n code p d y Ended has = (refl, refl)
stopped_step n code p d y (Trapped t) has = (refl, refl)

pub stopped_source : (n p : ℕ) (s : SourceState) (x : SourceProcess) (status : Status) → HasStopped status
    → S.step_as n p s x status ≡ s
stopped_source n p s x Running has = absurd has
stopped_source n p s x Ended has = refl
stopped_source n p s x (Trapped t) has = refl

-- a process runs or has stopped
pub runs_or_not : (status : Status) → (status ≡ Running) ⊎ HasStopped status
runs_or_not Running = inl refl
runs_or_not Ended = inr tt
runs_or_not (Trapped t) = inr tt
