-- One step of a process of the code that matches its process of the program: it either ends a step of the
-- program, and both did the same (`together`), or nobody sees it and the process matches again, nearer to the end
-- (`apart`) or, after a lost exchange, where its stamp begins, with no labels loaded (`loses`).
-- A case for each situation of `Matches`, in `match_step`. The difficulty is the exchange (`exchange_step`): that it
-- stamps rightly asks only that the labels are those that were loaded, not what happened in between.
use Rattle.std.proofs.Common.{◌≡◌, ℕ, suc, ◌+◌, ◌-◌, ◌≤◌, Bool, true, false, List, [], length, refl, ap, sym, ◌∙◌, subst, arith, Option, Some, None}
use Rattle.std.specs.Prelude.{slice_get, if◌then◌else◌}
use Rattle.base.specs.declared.status.Status.TheVariants.{Running}
use Rattle.base.specs.declared.event.Act.TheVariants as A
use Rattle.code_core.specs.declared.instr.Instr.{Instr}
use Rattle.code_core.specs.declared.instr.Instr.TheVariants as I
use Rattle.ticket_core.specs.Tickets.{stamp_ticket}
use Rattle.word_core.specs.Stamps.{Labels, stamped}
use Rattle.word_core.specs.Agreement.{Agrees}
use Rattle.word_core.proofs.Offered.{agreement_law}
use Rattle.base.specs.Plain.{stamp, cons}
use Rattle.tick_source.specs.Source as S
use Rattle.tick_source.specs.Source.{SourceProcess, SourceState}
use Rattle.code_machine.specs.Machine as C
use Rattle.code_machine.specs.Machine.{CodeProcess, CodeState, CodeStep, asks, made, labels_left}
use Rattle.code_machine.specs.declared.ask.Ask.TheVariants as Q
use Rattle.code_machine.specs.declared.ask.Reply.TheVariants as R
use Rattle.code_machine.proofs.Offered.{equal_from_same}
use Rattle.tick_sim.specs.Maps.{ended}
use Rattle.tick_sim.proofs.Stands.{StandsAt, stands_few}
use Rattle.tick_sim.proofs.Match as M
use Rattle.tick_sim.proofs.Match.{HasStopped, at, RunAlike, Between, over, rests, StampBegins, Leads, ends_here, stamps, quietly, stopped, inside, has_loaded, has_labelled, together, apart, loses}
use Rattle.tick_sim.proofs.Statements.{stands_lead}

module _ (n : ℕ) (code : List Instr) (p : ℕ) (Loaded : Labels → Type 0) where
  abbrev Matches : ℕ → SourceProcess → CodeProcess → Type 0
  Matches = M.Matches n code p Loaded

  abbrev ProcessStep : ℕ → SourceProcess → Labels → List (List ℕ) → S.SourceStep → CodeStep → Option Instr → Type 0
  ProcessStep = M.ProcessStep n code p Loaded

  pub between_matches : (x : SourceProcess) (y : CodeProcess) → Between n code x y
      → (m : ℕ) × (m ≤ length code) × Matches m x y
  between_matches x y (over same has) = (0, omega arith, stopped same has)
  between_matches x y (rests alike stack (m, stands)) = (
    m,
    stands_few code m y.place x.rest stands,
    inside (record {
      process = y;
      place = y.place;
      stack = [];
      is = ap (at y y.place) stack;
      alike = alike;
      leads = stands_lead n code p y x.scans alike.1 alike.3 m y.place x.rest stands;
    }),
  )

  pub match_status : (m : ℕ) (x : SourceProcess) (y : CodeProcess) → Matches m x y → x.status ≡ y.status
  match_status m x y (stopped same has) = same
  match_status m x y (inside within) = within.alike.0 ∙ sym within.alike.1 ∙ ap (λ y. y.status) (sym within.is)
  match_status m x y (has_loaded k few place loaded alike begun) = alike.0 ∙ sym alike.1
  match_status m x y (has_labelled k few place loaded beside alike begun) = alike.0 ∙ sym alike.1

  module _ (labels : Labels) (rows : List (List ℕ)) (loaded : Loaded labels) where
    -- an instruction at the place of the process
    step_at : (m : ℕ) (x : SourceProcess) (y : CodeProcess) (d : S.SourceStep) (i : Instr) → slice_get code y.place ≡ Some i
        → ProcessStep m x labels rows d (C.does y n p i) (Some i)
        → ProcessStep m x labels rows d (C.did n p code y) (slice_get code y.place)
    step_at m x y d i here step = subst (λ o. ProcessStep m x labels rows d (C.does_at y n p o) o) (sym here) step

    inside_step : (m : ℕ) (x : SourceProcess) (q : CodeProcess) (k : ℕ) (stack : List ℕ) → RunAlike n x q
        → Leads n code p q x.scans x.rest m k stack → (tickets : List ℕ) → Agrees n tickets labels
        → ProcessStep m x labels rows (S.did n p tickets rows q.variables x.scans x.rest)
        (C.did n p code (at q k stack)) (slice_get code k)
    inside_step m x q k stack alike (ends_here some i here same_step) tickets agrees =
        step_at m x (at q k stack) (S.did n p tickets rows q.variables x.scans x.rest) i here
        (together some (same_step tickets labels rows agrees))
    inside_step m x q k stack alike (stamps three begun) tickets agrees =
        step_at m x (at q k stack) (S.did n p tickets rows q.variables x.scans x.rest) I.LoadWord begun.has.0
        (apart (refl, refl, refl, refl) (m - 1) (omega arith) (has_loaded k (omega arith) refl loaded alike begun))
    inside_step _ x q k stack alike (quietly {m = m} {k' = k'} {stack' = stack'} i here makes quiet leads) tickets
        agrees =
        step_at (suc m) x (at q k stack) (S.did n p tickets rows q.variables x.scans x.rest) i here
        (subst (λ e. ProcessStep (suc m) x labels rows (S.did n p tickets rows q.variables x.scans x.rest) e (Some i))
        (sym makes)
        (apart (quiet, refl, refl, refl) m (omega arith)
        (inside (record { process = q; place = k'; stack = stack'; is = refl; alike = alike; leads = leads }))))

    -- an exchange is won where the labels are those that were loaded
    exchange_step : (m : ℕ) (x : SourceProcess) (y : CodeProcess) (k : ℕ) → 1 ≤ m → y.place ≡ k + 2 → Loaded y.scratch
        → y.beside ≡ stamped p y.scratch → RunAlike n x y → StampBegins code x.rest k y.stack
        → (tickets : List ℕ) → Agrees n tickets labels → (won : Bool) → C.same_labels labels y.scratch ≡ won
        → ProcessStep m x labels rows (S.did n p tickets rows x.variables x.scans x.rest)
        (asks (Q.Exchange y.scratch y.beside) (C.exchanges y k)) (Some (I.Exchange k))
    exchange_step m x y k few place has beside alike begun tickets agrees true won =
        let same : labels ≡ y.scratch = equal_from_same labels y.scratch won in
        let exchange : CodeStep = asks (Q.Exchange y.scratch y.beside) (C.exchanges y k) in
        let left : labels_left p exchange labels ≡ y.beside = ap (λ b. if b then y.beside else labels) won in
        let moved : made labels rows exchange ≡ C.goes_on y y.stack (Some A.Stamp) =
        ap (λ b. C.exchanges y k (if b then R.Won else R.Lost labels)) won in
        let d : S.SourceStep = S.did n p tickets rows x.variables x.scans (cons stamp begun.after) in
        let at_end : k + 3 ≡ y.place + 1 = omega (arith, place) in
        let after : Between n code d.process (C.goes_on y y.stack (Some A.Stamp)).process =
        rests (refl, alike.1, alike.2, alike.3) begun.empty
        (subst (λ k. StandsAt code k begun.after) at_end begun.stands) in
        subst (λ rest. ProcessStep m x labels rows (S.did n p tickets rows x.variables x.scans rest) exchange
        (Some (I.Exchange k))) (sym begun.is)
        (together few (record {
          ends = ap (λ moved. ended (I.Exchange k) moved.act) moved;
          agrees = subst (Agrees n (stamp_ticket p tickets)) (ap (stamped p) same ∙ sym beside ∙ sym left)
              (agreement_law.stamped n p tickets labels agrees);
          same_rows = refl;
          same_act = ap (λ moved. moved.act) (sym moved);
          between = subst (λ moved. Between n code d.process moved.process) (sym moved) after;
        }))
    exchange_step m x y k few place has beside alike begun tickets agrees false lost =
        let moved : made labels rows (asks (Q.Exchange y.scratch y.beside) (C.exchanges y k))
        ≡ C.goes y k y.stack None =
        ap (λ b. C.exchanges y k (if b then R.Won else R.Lost labels)) lost in
        loses (
          ap (λ moved. ended (I.Exchange k) moved.act) moved,
          ap (λ b. if b then y.beside else labels) lost,
          refl,
          ap (λ moved. moved.act) moved,
        )
        y.scratch has lost
        (subst (λ moved. M.IsInside n code p 3 x moved.process) (sym moved)
        (record { process = y; place = k; stack = y.stack; is = refl; alike = alike; leads = stamps (omega arith) begun }))

    match_step : (m : ℕ) (x : SourceProcess) (y : CodeProcess) → Matches m x y → y.status ≡ Running → (tickets : List ℕ)
        → Agrees n tickets labels
        → ProcessStep m x labels rows (S.did n p tickets rows x.variables x.scans x.rest) (C.did n p code y)
        (slice_get code y.place)
    match_step m x y (stopped same has) runs tickets agrees = absurd (subst HasStopped (same ∙ runs) has)
    match_step m x y (inside within) runs tickets agrees =
        subst (λ y. ProcessStep m x labels rows (S.did n p tickets rows x.variables x.scans x.rest) (C.did n p code y)
        (slice_get code y.place))
        (sym within.is)
        (subst (λ v. ProcessStep m x labels rows (S.did n p tickets rows v x.scans x.rest)
        (C.did n p code (at within.process within.place within.stack)) (slice_get code within.place))
        (sym within.alike.2)
        (inside_step m x within.process within.place within.stack within.alike within.leads tickets agrees))
    match_step m x y (has_loaded k few place has alike begun) runs tickets agrees =
        step_at m x y (S.did n p tickets rows x.variables x.scans x.rest) I.Next
        (ap (slice_get code) place ∙ begun.has.1.0)
        (apart (refl, refl, refl, refl) (m - 1) (omega arith)
        (has_labelled k (omega arith) (omega (arith, place)) has refl alike begun))
    match_step m x y (has_labelled k few place has beside alike begun) runs tickets agrees =
        let same : y.place ≡ k + 1 + 1 = omega (arith, place) in
        step_at m x y (S.did n p tickets rows x.variables x.scans x.rest) (I.Exchange k)
        (ap (slice_get code) same ∙ begun.has.1.1.0)
        (exchange_step m x y k few place has beside alike begun tickets agrees (C.same_labels labels y.scratch) refl)

  -- the next step of a process, in a state of the program and one of the code that agree
  pub process_step : (m : ℕ) (x : SourceProcess) (y : CodeProcess) (s : SourceState) (d : CodeState)
      → Agrees n s.tickets d.labels
      → s.rows ≡ d.rows → Loaded d.labels → Matches m x y → y.status ≡ Running → M.NextStep n code p Loaded m x y s d
  process_step m x y s d agrees same_rows loaded matches runs =
      subst (λ rows. ProcessStep m x d.labels d.rows (S.did n p s.tickets rows x.variables x.scans x.rest)
      (C.did n p code y) (slice_get code y.place))
      (sym same_rows) (match_step d.labels d.rows loaded m x y matches runs s.tickets agrees)
