-- The machine stands for the state that the definitions speak of, and has a ticket for each process, in each
-- scan too: at the start (`state_start`, `ticketed_start`), and after each step (`step_ok`, `step_err`,
-- `step_stopped`, `ticketed_step`).
--
-- The idea. `state_of` views the machine as a state. A step changes one process and what is shared, and
-- `Makes` or `Keeps` says how. Where the machine puts the process back into its list, the state has it at the
-- same place (`set_back`), so each field of the new state follows (`made`). The difficulty is that the code
-- counts processes by their tickets, and the definition by the list of processes. `IsTicketed` says that both
-- are as many, so it has to be kept by each step (`ticketed_made`, `ticketed_kept`). Read `made` and
-- `running_step` first.
use Rattle.std.proofs.Common.{◌≡◌, ℕ, ◌<◌, List, [], ◌∷◌, refl, ap, ◌∙◌, sym, subst, length, map, set, get_or, replicate, arith, Result, Ok, Err, Some, OnOk, OnErr}
use Rattle.std.specs.Prelude.{slice_get, slice_set}
use Rattle.std.specs.List.{All}
use Rattle.std.specs.Option.{option_map}
use Rattle.std.proofs.lemmas.List.{map-set, length-set, length-map, length-replicate}
use Rattle.std.proofs.lemmas.List.Elements.{All-set, All-get_or, All-replicate}
use Rattle.std.proofs.lemmas.Option.{slice_get-map, slice_get_read}
use Rattle.std.proofs.Math.Seq.{map-set_same}
use Rattle.std.proofs.Math.ListN.{get_or-map}
use Rattle.ticket_core.specs.Tickets.{start_tickets}
use Rattle.base.specs.Plain.{WholeProgram}
use Rattle.base.specs.RegisterRows.{start_rows}
use Rattle.base.specs.declared.status.Status.TheVariants.{Running}
use Rattle.base.specs.declared.no_memory.NoMemory.{NoMemory}
use Rattle.tick_source.specs.declared.process.Process.{Process}
use Rattle.tick_source.specs.declared.machine.SourceMachine.TheInside.{Inside}
use Rattle.tick_source.specs.Source.{SourceProcess, SourceState, SourceStep, did, state_after, step_of, step_as, source_step, source_start, start_process, statuses_of, IsQuietStep, IsQuietFor, IsQuietAs, HasQuietFirst}
use Rattle.tick_source.specs.prover.Steps.{Makes, Keeps, did_from}
use Rattle.tick_source.specs.prover.Machine.{process_of, state_of, AreScans, IsTicketed}
use Rattle.tick_source.proofs.Steps.{did_fits, stopped_as, IsAsLarge, step_as_large}

pub in_range : (m : Inside) (s : SourceState) (p : ℕ) → state_of m ≡ s → p < length s.processes → p < length m.processes.items
in_range m s p e h =
    let same : length (state_of m).processes ≡ length s.processes = ap (λ t. length t.processes) e in
    let counted : length (state_of m).processes ≡ length m.processes.items = length-map m.processes.items process_of in
    omega arith

-- Process `p` of the machine steps.
module _ (m m' : Inside) (p : ℕ) (q q' : Process) (here : q ≡ get_or m.processes.items p q) (inside : p < length m.processes.items)
    (put_back : m'.processes.items ≡ set m.processes.items p q') where
  held : slice_get (state_of m).processes p ≡ Some (process_of q)
  held = slice_get-map process_of m.processes.items p ∙ ap (option_map process_of) (slice_get_read m.processes.items (length m.processes.items) p q refl inside here)

  set_back : (after : SourceProcess) → process_of q' ≡ after → (state_of m').processes ≡ slice_set (state_of m).processes p after
  set_back after e = ap (map process_of) put_back ∙ map-set process_of m.processes.items p q' ∙ ap (slice_set (state_of m).processes p) e

  made : (d : SourceStep) → Makes p d m.shared m'.shared q' → state_of m' ≡ state_after p (state_of m) d
  made d f =
      let process : process_of q' ≡ d.process = λ i. record { variables = f.variables i; scans = f.scans i; rest = f.rest i; status = f.status i } in
      let processes : (state_of m').processes ≡ slice_set (state_of m).processes p d.process = set_back d.process process in
      λ i. record { tickets = f.tickets i; rows = f.registers i; processes = processes i; events = f.events i }

  -- a process that runs
  pub running_step : IsTicketed m → q.status ≡ Running → Makes p (did_from p m.shared q) m.shared m'.shared q'
      → state_of m' ≡ source_step (length (state_of m).processes) p (state_of m)
  running_step ticketed runs f =
      let n = length (state_of m).processes in
      let counted : n ≡ length m.shared.tickets = length-map m.processes.items process_of ∙ ticketed.counted in
      made (did_from p m.shared q) f
      ∙ ap (λ k. state_after p (state_of m) (did k p m.shared.tickets m.shared.registers q.variables.items q.scans.items q.rest)) (sym counted)
      ∙ ap (step_as n p (state_of m) (process_of q)) (sym runs)
      ∙ ap (step_of n p (state_of m)) (sym held)

  -- nothing was done
  pub kept_step : Keeps m.shared m'.shared q q' → state_of m' ≡ state_of m
  kept_step f =
      let process : process_of q' ≡ process_of q = λ i. record { variables = f.variables i; scans = f.scans i; rest = f.rest i; status = f.status i } in
      let processes : (state_of m').processes ≡ (state_of m).processes =
      ap (map process_of) put_back ∙ map-set_same process_of m.processes.items p q' q (process ∙ ap process_of here) in
      λ i. record { tickets = f.held.tickets i; rows = f.held.registers i; processes = processes i; events = f.held.events i }

  ticketed_by : IsTicketed m → length m'.shared.tickets ≡ length m.shared.tickets → AreScans (length m.shared.tickets) q'.scans.items → IsTicketed m'
  ticketed_by ticketed same are = record {
    counted = ap length put_back ∙ length-set m.processes.items p q' ∙ ticketed.counted ∙ sym same;
    scans = subst (λ n. All (λ x. AreScans n x.scans.items) m'.processes.items) (sym same)
        (subst (All (λ x. AreScans (length m.shared.tickets) x.scans.items)) (sym put_back)
        (All-set (λ x. AreScans (length m.shared.tickets) x.scans.items) m.processes.items p q' are ticketed.scans));
  }

  scans_of : IsTicketed m → AreScans (length m.shared.tickets) q.scans.items
  scans_of ticketed =
      subst (λ x. AreScans (length m.shared.tickets) x.scans.items) (sym here)
      (All-get_or (λ x. AreScans (length m.shared.tickets) x.scans.items) m.processes.items p q inside ticketed.scans)

  pub ticketed_made : IsTicketed m → Makes p (did_from p m.shared q) m.shared m'.shared q' → IsTicketed m'
  ticketed_made ticketed f =
      let fits = did_fits (length m.shared.tickets) p m.shared.tickets m.shared.registers q.variables.items q.scans.items q.rest in
      ticketed_by ticketed (ap length f.tickets ∙ fits.tickets)
      (subst (AreScans (length m.shared.tickets)) (sym f.scans) (fits.scans refl (scans_of ticketed)))

  pub ticketed_kept : IsTicketed m → Keeps m.shared m'.shared q q' → IsTicketed m'
  ticketed_kept ticketed f =
      ticketed_by ticketed (ap length f.held.tickets) (subst (AreScans (length m.shared.tickets)) (sym f.scans) (scans_of ticketed))

  pub ticketed_step : IsTicketed m → (r : Result (Unit {0}) NoMemory) → OnOk r (Makes p (did_from p m.shared q) m.shared m'.shared q')
      → OnErr r (Keeps m.shared m'.shared q q') → IsTicketed m'
  ticketed_step ticketed (Ok u) f k = ticketed_made ticketed f
  ticketed_step ticketed (Err e) f k = ticketed_kept ticketed k

  pub step_ok : IsTicketed m → q.status ≡ Running → (s : SourceState) → state_of m ≡ s → (r : Result (Unit {0}) NoMemory)
      → OnOk r (Makes p (did_from p m.shared q) m.shared m'.shared q') → OnOk r (state_of m' ≡ source_step (length s.processes) p s)
  step_ok ticketed runs s e (Ok u) f = running_step ticketed runs f ∙ ap (λ t. source_step (length t.processes) p t) e
  step_ok ticketed runs s e (Err x) f = f

  pub step_err : (s : SourceState) → state_of m ≡ s → (r : Result (Unit {0}) NoMemory)
      → OnErr r (Keeps m.shared m'.shared q q') → OnErr r (state_of m' ≡ s)
  step_err s e (Ok u) f = f
  step_err s e (Err x) f = kept_step f ∙ e

  -- of a quiet step of the state the first statement that remains is quiet
  pub quiet_first : IsTicketed m → q.status ≡ Running → (s : SourceState) → state_of m ≡ s → IsQuietStep (length s.processes) p s
      → HasQuietFirst (length m.shared.tickets) p q.variables.items q.rest
  quiet_first ticketed runs s e quiet =
      let n = length (state_of m).processes in
      let counted : n ≡ length m.shared.tickets = length-map m.processes.items process_of ∙ ticketed.counted in
      let here_quiet : IsQuietStep n p (state_of m) = subst (λ t. IsQuietStep (length t.processes) p t) (sym e) quiet in
      subst (λ k. HasQuietFirst k p q.variables.items q.rest) counted
      (subst (IsQuietAs n p (process_of q)) runs (subst (IsQuietFor n p) held here_quiet))

module _ (m m' : Inside) (p : ℕ) (q : Process) (here : q ≡ get_or m.processes.items p q) (inside : p < length m.processes.items)
    (shared : m'.shared ≡ m.shared) (put_back : m'.processes.items ≡ set m.processes.items p q) where
  all_same : Keeps m.shared m'.shared q q
  all_same = record {
    held = record { tickets = ap (λ x. x.tickets) shared; registers = ap (λ x. x.registers) shared; events = ap (λ x. x.events.items) shared };
    variables = refl;
    scans = refl;
    rest = refl;
    status = refl;
  }

  pub step_stopped : (q.status ≡ Running → ⊥) → (s : SourceState) → state_of m ≡ s → state_of m' ≡ source_step (length s.processes) p s
  step_stopped stopped s e =
      let n = length (state_of m).processes in
      kept_step m m' p q q here inside put_back all_same
      ∙ sym (stopped_as n p (state_of m) (process_of q) q.status stopped)
      ∙ ap (step_of n p (state_of m)) (sym (held m m' p q q here inside put_back))
      ∙ ap (λ t. source_step (length t.processes) p t) e

pub statuses_held : (qs : List Process) → map (λ x. x.status) (map process_of qs) ≡ map (λ x. x.status) qs
statuses_held [] = refl
statuses_held (q ∷ qs) = ap (λ xs. q.status ∷ xs) (statuses_held qs)

-- the status that a machine tells
pub status_held : (m : Inside) (p : ℕ) (q : Process) → q ≡ get_or m.processes.items p q → p < length m.processes.items
    → slice_get (statuses_of (state_of m)) p ≡ Some q.status
status_held m p q here inside =
    ap (λ xs. slice_get xs p) (statuses_held m.processes.items)
    ∙ slice_get-map (λ x. x.status) m.processes.items p
    ∙ ap (option_map (λ x. x.status)) (slice_get_read m.processes.items (length m.processes.items) p q refl inside here)

unmapped : {X Y : Type 0} (f : X → Y) (P : Y → Type 0) (xs : List X) → All P (map f xs) → All (λ x. P (f x)) xs
unmapped f P xs all k d inside =
    let there : k < length (map f xs) = omega (arith, length-map xs f) in
    subst P (get_or-map f xs k d) (all k (f d) there)

-- at the start
pub ticketed_start : (m : Inside) (a : WholeProgram ℕ) (n : ℕ) → m.shared.tickets ≡ start_tickets n → n ≡ a.processes
    → map process_of m.processes.items ≡ replicate n (start_process a) → IsTicketed m
ticketed_start m a n tickets same processes =
    let many : length m.shared.tickets ≡ n = ap length tickets ∙ length-replicate n 0 in
    let counted : length m.processes.items ≡ n = sym (length-map m.processes.items process_of) ∙ ap length processes ∙ length-replicate n (start_process a) in
    let are : AreScans n (start_process a).scans =
    All-replicate (λ x. length x ≡ n) (length a.scans) (start_tickets a.processes) (length-replicate a.processes 0 ∙ sym same) in
    record {
      counted = counted ∙ sym many;
      scans = subst (λ k. All (λ q. AreScans k q.scans.items) m.processes.items) (sym many)
          (unmapped process_of (λ q. AreScans n q.scans) m.processes.items
          (subst (All (λ q. AreScans n q.scans)) (sym processes) (All-replicate (λ q. AreScans n q.scans) n (start_process a) are)));
    }

pub state_start : (m : Inside) (a : WholeProgram ℕ) (n count : ℕ) → m.shared.tickets ≡ start_tickets n → n ≡ a.processes
    → m.shared.registers ≡ start_rows count n → count ≡ length a.registers
    → map process_of m.processes.items ≡ replicate n (start_process a) → m.shared.events.items ≡ []
    → state_of m ≡ source_start a
state_start m a n count tickets same rows many processes events =
    let t : m.shared.tickets ≡ start_tickets a.processes = tickets ∙ ap start_tickets same in
    let r : m.shared.registers ≡ start_rows (length a.registers) a.processes =
    rows ∙ (λ i. start_rows (many i) (same i)) in
    let q : map process_of m.processes.items ≡ replicate a.processes (start_process a) = processes ∙ ap (λ k. replicate k (start_process a)) same in
    λ i. record { tickets = t i; rows = r i; processes = q i; events = events i }

-- after a step, whether or not memory was refused
pub large_after : (n p : ℕ) (s s' : SourceState) (r : Result (Unit {0}) NoMemory) → OnOk r (s' ≡ source_step n p s) → OnErr r (s' ≡ s) → IsAsLarge s s'
large_after n p s s' (Ok u) e f = subst (IsAsLarge s) (sym e) (step_as_large n p s)
large_after n p s s' (Err x) e f = record { processes = ap (λ t. length t.processes) f; rows = ap (λ t. length t.rows) f }
