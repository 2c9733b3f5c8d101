-- What the definitions say of every step and run.
-- The idea. `Fits` says what a step keeps: the count of tickets and of register rows, and that of the tickets of each scan.
-- It is proved by cases of the statement (`does_fits`). `value_fits` and `index_fits` are for what may trap. So no step
-- changes how many processes and rows there are (`step_as_large`). A loop over a schedule goes on by `run_more`, and ends
-- by `run_done`.
-- Read `Fits` first, then `does_fits`.
use Rattle.std.proofs.Common.{◌≡◌, ℕ, zero, suc, ◌+◌, ◌<◌, List, [], ◌∷◌, refl, ap, ◌∙◌, sym, length, drop, get_or, arith, Result, Ok, Err, Option, None, Some}
use Rattle.std.specs.Prelude.{nat_lt, slice_get}
use Rattle.std.proofs.lemmas.List.{length-set, length-replicate}
use Rattle.std.proofs.lemmas.List.Elements.{All-set}
use Rattle.std.proofs.Math.Seq.{drop-cons, drop-length}
use Rattle.std.specs.List.{All}
use Rattle.ticket_core.specs.Tickets.{start_tickets, greatest_ticket}
use Rattle.base.specs.Plain.{Statement, assign, get, put, stamp, clear, scan, copy, older, held, out, branch, repeat, Block, nil, cons}
use Rattle.base.specs.declared.status.Trap.{Trap}
use Rattle.base.specs.declared.status.Status.{Status}
use Rattle.base.specs.declared.status.Status.TheVariants.{Running, Ended, Trapped}
use Rattle.base.proofs.Offered.{one_of_two}
use Rattle.tick_source.specs.Values.{value}
use Rattle.tick_source.specs.Source.{SourceProcess, SourceState, SourceStep, scan_at, with_value, with_index, does, did, step_of, step_as, source_step, source_run}
use Rattle.tick_source.specs.prover.Machine.{AreScans}

-- What was done keeps how many tickets and rows there are, and a ticket for each process in each scan.
pub record Fits (n : ℕ) (before : List ℕ) (registers scanned : List (List ℕ)) (d : SourceStep) : Type 0 where
  pub tickets : length d.tickets ≡ length before
  pub rows : length d.rows ≡ length registers
  pub scans : length before ≡ n → AreScans n scanned → AreScans n d.process.scans

held_or : {X : Type 0} (P : X → Type 0) (xs : List X) (k : ℕ) (d : X) → P d → All P xs → P (get_or xs k d)
held_or P [] k d h all = h
held_or P (x ∷ xs) zero d h all = all 0 d (omega arith)
held_or P (x ∷ xs) (suc k) d h all = held_or P xs k d h (λ j e inside. all (suc j) e (omega arith))

module _ (n p : ℕ) (tickets : List ℕ) (rows : List (List ℕ)) (variables : List ℕ) (scans : List (List ℕ)) where
  abbrev IsFit : SourceStep → Type 0
  IsFit d = Fits n tickets rows scans d

  value_fits : (rest : Block ℕ) (v : Result ℕ Trap) (then_this : ℕ → SourceStep) → ((k : ℕ) → IsFit (then_this k))
      → IsFit (with_value n p tickets rows variables scans rest v then_this)
  value_fits rest (Ok v) then_this fit = fit v
  value_fits rest (Err t) then_this fit = record { tickets = refl; rows = refl; scans = λ long are. are }

  index_fits : (rest : Block ℕ) (i : ℕ) (d : SourceStep) → IsFit d → IsFit (with_index n p tickets rows variables scans rest i d)
  index_fits rest i d fit = one_of_two IsFit (nat_lt i n) d _ fit (record { tickets = refl; rows = refl; scans = λ long are. are })

  scan_fits : (s : ℕ) → AreScans n scans → length (scan_at n scans s) ≡ n
  scan_fits s are = held_or (λ x. length x ≡ n) scans s (start_tickets n) (length-replicate n 0) are

  does_fits : (s : Statement ℕ) (rest : Block ℕ) → IsFit (does n p tickets rows variables scans s rest)
  does_fits (assign x e) rest = value_fits rest (value n p variables e) _ λ v. record { tickets = refl; rows = refl; scans = λ long are. are }
  does_fits (get x r e) rest =
      value_fits rest (value n p variables e) _ λ i. index_fits rest i _ (record { tickets = refl; rows = refl; scans = λ long are. are })
  does_fits (put r e) rest =
      value_fits rest (value n p variables e) _ λ v. record { tickets = refl; rows = length-set rows r _; scans = λ long are. are }
  does_fits stamp rest = record { tickets = length-set tickets p (1 + greatest_ticket tickets); rows = refl; scans = λ long are. are }
  does_fits clear rest = record { tickets = length-set tickets p 0; rows = refl; scans = λ long are. are }
  does_fits (scan s) rest = record { tickets = refl; rows = refl; scans = λ long are. All-set (λ x. length x ≡ n) scans s tickets long are }
  does_fits (copy t s) rest = record {
    tickets = refl;
    rows = refl;
    scans = λ long are. All-set (λ x. length x ≡ n) scans t (scan_at n scans s) (scan_fits s are) are;
  }
  does_fits (older x s e f) rest =
      value_fits rest (value n p variables e) _ λ i. value_fits rest (value n p variables f) _ λ j.
      index_fits rest i _ (index_fits rest j _ (record { tickets = refl; rows = refl; scans = λ long are. are }))
  does_fits (held x s e) rest =
      value_fits rest (value n p variables e) _ λ i. index_fits rest i _ (record { tickets = refl; rows = refl; scans = λ long are. are })
  does_fits (out e) rest = value_fits rest (value n p variables e) _ λ v. record { tickets = refl; rows = refl; scans = λ long are. are }
  does_fits (branch e a b) rest = value_fits rest (value n p variables e) _ λ v. record { tickets = refl; rows = refl; scans = λ long are. are }
  does_fits (repeat e a) rest = value_fits rest (value n p variables e) _ λ v. record { tickets = refl; rows = refl; scans = λ long are. are }

  pub did_fits : (rest : Block ℕ) → IsFit (did n p tickets rows variables scans rest)
  did_fits nil = record { tickets = refl; rows = refl; scans = λ long are. are }
  did_fits (cons s rest) = does_fits s rest

-- a step of a process that has stopped
pub stopped_as : (n p : ℕ) (s : SourceState) (q : SourceProcess) (status : Status) → (status ≡ Running → ⊥) → step_as n p s q status ≡ s
stopped_as n p s q Running stopped = absurd (stopped refl)
stopped_as n p s q Ended stopped = refl
stopped_as n p s q (Trapped t) stopped = refl

-- as many processes and register rows as before
pub record IsAsLarge (s s' : SourceState) : Type 0 where
  pub processes : length s'.processes ≡ length s.processes
  pub rows : length s'.rows ≡ length s.rows

as_large : (n p : ℕ) (s : SourceState) (q : SourceProcess) (status : Status) → IsAsLarge s (step_as n p s q status)
as_large n p s q Running = record {
  processes = length-set s.processes p (did n p s.tickets s.rows q.variables q.scans q.rest).process;
  rows = (did_fits n p s.tickets s.rows q.variables q.scans q.rest).rows;
}
as_large n p s q Ended = record { processes = refl; rows = refl }
as_large n p s q (Trapped t) = record { processes = refl; rows = refl }

as_large_of : (n p : ℕ) (s : SourceState) (q : Option SourceProcess) → IsAsLarge s (step_of n p s q)
as_large_of n p s None = record { processes = refl; rows = refl }
as_large_of n p s (Some q) = as_large n p s q q.status

-- no step adds or takes a process or a register row
pub step_as_large : (n p : ℕ) (s : SourceState) → IsAsLarge s (source_step n p s)
step_as_large n p s = as_large_of n p s (slice_get s.processes p)

-- one item more of the schedule is done
pub run_more : (n i : ℕ) (schedule : List ℕ) (m m' : SourceState) → i < length schedule
    → m' ≡ source_step (length m.processes) (get_or schedule i 0) m → length m.processes ≡ n
    → source_run n (drop (i + 1) schedule) m' ≡ source_run n (drop i schedule) m
run_more n i schedule m m' inside step many =
    let p = get_or schedule i 0 in
    let next : i + 1 ≡ suc i = omega arith in
    ap (λ j. source_run n (drop j schedule) m') next
    ∙ ap (source_run n (drop (suc i) schedule)) (step ∙ ap (λ k. source_step k p m) many)
    ∙ ap (λ xs. source_run n xs m) (sym (drop-cons schedule i 0 inside))

-- the whole schedule is done
pub run_done : (n i : ℕ) (schedule : List ℕ) (m last : SourceState) → i ≡ length schedule → source_run n (drop i schedule) m ≡ last → m ≡ last
run_done n i schedule m last done e =
    ap (λ xs. source_run n xs m) (sym (ap (λ j. drop j schedule) done ∙ drop-length schedule)) ∙ e
