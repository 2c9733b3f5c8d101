-- A step of the machine is the defined step, and keeps the machine sound: `stepped`.
--
-- What the code did is known part by part: `Makes`, or `Keeps` where memory was refused. `made_step` puts the
-- parts together to the state that `code_step` defines. `as_parts` shows that the definition has these parts,
-- by cases of the status: a process that has stopped changes nothing.
-- Two things are difficult. The code takes the number of the process from the process itself (`me`), the
-- definition takes its place in the list; soundness says that they are the same (`held_me`). And memory may
-- be refused only where an event is told: if the list of events did not grow, none was told (`told_same`).
-- Read the record `Stepped` first, then `made_step`.
use Rattle.std.proofs.Common.{◌≡◌, ⊎_elim, ℕ, suc, ◌+◌, ◌<◌, false, List, [], ◌∷◌, ◌++◌, refl, ap, ◌∙◌, sym, subst, length, map, set, drop, get_or, replicate, arith, Result, Ok, Err, Option, None, Some, OnOk, OnErr, IfOk, IfSome}
use Rattle.std.specs.Prelude.{slice_get, slice_set, is_some, IsOk}
use Rattle.std.specs.Option.{option_map, option_and_then}
use Rattle.std.proofs.lemmas.List.{map-set, set-get_or, length-map, length-append}
use Rattle.std.proofs.lemmas.Option.{none-some, slice_get-map, slice_get_read, get_or_from_slice_get}
use Rattle.std.proofs.Math.Seq.{drop-cons, drop-length}
use Rattle.base.specs.declared.status.Status.{Status}
use Rattle.base.specs.declared.status.Status.TheVariants.{Running, Ended, Trapped}
use Rattle.base.specs.declared.event.Act.{Act}
use Rattle.base.specs.declared.event.Event.{Event}
use Rattle.base.specs.declared.no_memory.NoMemory.{NoMemory}
use Rattle.base.specs.Observables.{told}
use Rattle.code_core.specs.declared.instr.Instr.{Instr}
use Rattle.code_core.specs.Instructions.{StepCode, CodeSizes}
use Rattle.word_core.specs.Stamps.{Labels}
use Rattle.code_core.proofs.Offered.{get-set, get-snoc}
use Rattle.code_machine.specs.declared.machine.CodeMachine.TheInside.{Inside}
use Rattle.code_machine.specs.declared.machine.Made.{Made}
use Rattle.code_machine.specs.Machine.{CodeProcess, CodeState, CodeRun, CodeStep, alone, asks, did, made, step_as, step_of, code_step, running_as, next_instruction, next_act, code_run, start_process}
use Rattle.code_machine.specs.Safety.{AreOrdered}
use Rattle.code_machine.specs.Process.{OneProcess, IsOf, next_of}
use Rattle.code_machine.specs.prover.Parts.{moved_as, labels_as, rows_as, Makes, Keeps, state_of, IsSound, AreNew}
use Rattle.code_machine.proofs.Safe.{DidSafe}
use Rattle.code_machine.proofs.Runs.{labels_ordered, rows_kept}
use Rattle.code_machine.proofs.Kept.{next_safe}

set_here : {X : Type 0} (xs : List X) (k : ℕ) (x : X) → slice_get xs k ≡ Some x → set xs k x ≡ xs
set_here xs k x here = ap (set xs k) (sym (get_or_from_slice_get xs k x x here)) ∙ set-get_or xs k x

pub held : {X : Type 0} (xs : List X) (p : ℕ) (x : X) → x ≡ get_or xs p x → p < length xs → slice_get xs p ≡ Some x
held xs p x here inside = slice_get_read xs (length xs) p x refl inside here

-- the state after a step of a process, part by part
abbrev parts : ℕ → CodeState → CodeProcess → Status → CodeStep → CodeState
parts p s q status d = record {
  labels = labels_as status p d s.labels;
  rows = rows_as status p d s.rows;
  processes = slice_set s.processes p (moved_as status q s.labels s.rows d).process;
  events = told p (moved_as status q s.labels s.rows d).act s.events;
}

as_parts : (n : ℕ) (code : List Instr) (p : ℕ) (s : CodeState) (q : CodeProcess) (status : Status) → slice_get s.processes p ≡ Some q
    → parts p s q status (did n p code q) ≡ step_as n code p s q status
as_parts n code p s q Running here = refl
as_parts n code p s q Ended here = ap (λ qs. record s { processes = qs }) (set_here s.processes p q here)
as_parts n code p s q (Trapped t) here = ap (λ qs. record s { processes = qs }) (set_here s.processes p q here)

-- what others see of it
act_as : (n : ℕ) (code : List Instr) (p : ℕ) (labels : Labels) (rows : List (List ℕ)) (q : CodeProcess) (status : Status)
    → (moved_as status q labels rows (did n p code q)).act
    ≡ option_and_then (λ q. (made labels rows (did n p code q)).act) (running_as q status)
act_as n code p labels rows q Running = refl
act_as n code p labels rows q Ended = refl
act_as n code p labels rows q (Trapped t) = refl

labels_kept : (sizes : CodeSizes) (code : List Instr) (p : ℕ) (in_p : p < sizes.processes) (status : Status) (d : CodeStep) (labels : Labels)
    → DidSafe sizes code p d → AreOrdered sizes.processes labels → AreOrdered sizes.processes (labels_as status p d labels)
labels_kept sizes code p in_p Running (alone m) labels safe are = are
labels_kept sizes code p in_p Running (asks ask answered) labels safe are = labels_ordered sizes p in_p ask labels safe.0 are
labels_kept sizes code p in_p Ended d labels safe are = are
labels_kept sizes code p in_p (Trapped t) d labels safe are = are

length-rows_as : (sizes : CodeSizes) (p : ℕ) (in_p : p < sizes.processes) (status : Status) (d : CodeStep) (rows : List (List ℕ)) → length (rows_as status p d rows) ≡ length rows
length-rows_as sizes p in_p Running (alone m) rows = refl
length-rows_as sizes p in_p Running (asks ask answered) rows = rows_kept sizes p in_p ask rows
length-rows_as sizes p in_p Ended d rows = refl
length-rows_as sizes p in_p (Trapped t) d rows = refl

told_same : (p : ℕ) (act : Option Act) (events : List Event) → told p act events ≡ events → is_some act ≡ false
told_same p None events same = refl
told_same p (Some act) events same =
    let event : Event = record { process = p; act = act } in
    let longer : length events + 1 ≡ length events = sym (length-append events (event ∷ [])) ∙ ap length same in
    absurd (omega arith)

-- What the machine has become once process `p` has stepped, or was refused memory.
pub record Stepped (m' : Inside) (p : ℕ) (run : CodeRun) (r : Result (Option Made) NoMemory) : Type 0 where
  pub sound : IsSound m'
  pub instruction : IfOk r (λ step. option_map (λ x. x.instruction) step ≡ next_instruction run.code.instructions p run.state)
  pub told : IfOk r (λ step. IfSome step (λ x. x.told ≡ is_some (next_act run.code.sizes.processes run.code.instructions p run.state)))
  pub ok : OnOk r (state_of m' ≡ code_step run.code.sizes.processes run.code.instructions p run.state)
  pub err : OnErr r (state_of m' ≡ run.state)
  pub silent : (code_step run.code.sizes.processes run.code.instructions p run.state).events ≡ run.state.events → IsOk r
  pub rows : length m'.shared.registers ≡ length run.state.rows

-- Process `p` of the machine steps.
module _ (m m' : Inside) (sound : IsSound m) (p : ℕ) (one one' : OneProcess) (here : one ≡ get_or m.processes.items p one)
    (inside : p < length m.processes.items) (put_back : m'.processes.items ≡ set m.processes.items p one') (same_code : m'.code ≡ m.code) where
  abbrev code : StepCode
  code = m.code.now

  at_place : slice_get m.processes.items p ≡ Some one
  at_place = held m.processes.items p one here inside

  held_of : IsOf code one
  held_of = (sound.each p one at_place).0

  held_me : one.me ≡ p
  held_me = (sound.each p one at_place).1

  in_p : p < code.sizes.processes
  in_p = subst (λ k. k < code.sizes.processes) held_me held_of.me

  state_held : slice_get (state_of m).processes p ≡ Some one.process
  state_held = slice_get-map (λ x. x.process) m.processes.items p ∙ ap (option_map (λ x. x.process)) at_place

  set_back : (q : CodeProcess) → one'.process ≡ q → (state_of m').processes ≡ slice_set (state_of m).processes p q
  set_back q e =
      ap (map (λ x. x.process)) put_back ∙ map-set (λ x. x.process) m.processes.items p one' ∙ ap (slice_set (state_of m).processes p) e

  is_parts : parts p (state_of m) one.process one.process.status (next_of code one) ≡ code_step code.sizes.processes code.instructions p (state_of m)
  is_parts =
      ap (λ k. parts p (state_of m) one.process one.process.status (did code.sizes.processes k code.instructions one.process)) held_me
      ∙ as_parts code.sizes.processes code.instructions p (state_of m) one.process one.process.status state_held
      ∙ ap (step_of code.sizes.processes code.instructions p (state_of m)) (sym state_held)

  made_step : Makes code p m.shared m'.shared one one' m.events.items m'.events.items
      → state_of m' ≡ code_step code.sizes.processes code.instructions p (state_of m)
  made_step f =
      (λ i. record { labels = f.labels i; rows = f.rows i; processes = set_back _ f.process i; events = f.told_events i })
      ∙ is_parts

  kept_step : Keeps m.shared m'.shared one one' m.events.items m'.events.items → state_of m' ≡ state_of m
  kept_step f =
      let processes : (state_of m').processes ≡ (state_of m).processes =
      set_back one.process f.process ∙ set_here (state_of m).processes p one.process state_held in
      λ i. record { labels = f.labels i; rows = f.rows i; processes = processes i; events = f.same_events i }

  sound_by : AreOrdered code.sizes.processes m'.shared.labels → IsOf code one' → one'.me ≡ p → IsSound m'
  sound_by labels of me =
      let each : (k : ℕ) (x : OneProcess) → slice_get m'.processes.items k ≡ Some x → IsOf code x × (x.me ≡ k) =
      λ k x at. ⊎_elim
      (λ (there, same). (subst (IsOf code) same of, ap (λ y. y.me) (sym same) ∙ me ∙ sym there))
      (λ (apart, other). sound.each k x other)
      (get-set m.processes.items p k one' x (sym (ap (λ xs. slice_get xs k) put_back) ∙ at)) in
      subst (λ b. IsSound (record m' { code = b })) (sym same_code) (record { verified = sound.verified; labels = labels; each = each })

  labels_after : AreOrdered code.sizes.processes (labels_as one.process.status p (next_of code one) m.shared.labels)
  labels_after =
      labels_kept code.sizes code.instructions p in_p one.process.status (next_of code one) m.shared.labels
      (subst (λ k. DidSafe code.sizes code.instructions k (next_of code one)) held_me (next_safe code one held_of)) sound.labels

  module _ (run : CodeRun) (is : record { code = m.code.now; state = state_of m } ≡ run) where
    silent_act : (code_step run.code.sizes.processes run.code.instructions p run.state).events ≡ run.state.events
        → is_some (moved_as one.process.status one.process m.shared.labels m.shared.registers (next_of code one)).act ≡ false
    silent_act same =
        told_same p (moved_as one.process.status one.process m.shared.labels m.shared.registers (next_of code one)).act m.events.items
        (ap (λ s. s.events) is_parts ∙ ap (λ x. (code_step x.code.sizes.processes x.code.instructions p x.state).events) is ∙ same ∙ ap (λ x. x.state.events) (sym is))

    instruction_made : option_and_then (λ q. slice_get code.instructions q.place) (running_as one.process one.process.status)
        ≡ next_instruction run.code.instructions p run.state
    instruction_made =
        ap (λ o. option_and_then (λ q. slice_get code.instructions q.place) (option_and_then (λ q. running_as q q.status) o)) (sym state_held)
        ∙ ap (λ x. next_instruction x.code.instructions p x.state) is

    act_made : (moved_as one.process.status one.process m.shared.labels m.shared.registers (next_of code one)).act
        ≡ next_act run.code.sizes.processes run.code.instructions p run.state
    act_made =
        ap (λ k. (moved_as one.process.status one.process m.shared.labels m.shared.registers (did code.sizes.processes k code.instructions one.process)).act) held_me
        ∙ act_as code.sizes.processes code.instructions p m.shared.labels m.shared.registers one.process one.process.status
        ∙ ap (λ o. option_and_then (λ q. (made m.shared.labels m.shared.registers (did code.sizes.processes p code.instructions q)).act) (option_and_then (λ q. running_as q q.status) o)) (sym state_held)
        ∙ ap (λ x. next_act x.code.sizes.processes x.code.instructions p x.state) is

    pub stepped : (r : Result (Option Made) NoMemory)
        → IfOk r (λ step. option_map (λ x. x.instruction) step ≡ option_and_then (λ q. slice_get code.instructions q.place) (running_as one.process one.process.status))
        → IfOk r (λ step. IfSome step (λ x. x.told ≡ is_some (moved_as one.process.status one.process m.shared.labels m.shared.registers (next_of code one)).act))
        → OnOk r (Makes code p m.shared m'.shared one one' m.events.items m'.events.items)
        → OnErr r (Keeps m.shared m'.shared one one' m.events.items m'.events.items)
        → (is_some (moved_as one.process.status one.process m.shared.labels m.shared.registers (next_of code one)).act ≡ false → IsOk r)
        → IsOf code one' → one'.me ≡ p → Stepped m' p run r
    stepped (Ok step) which tells f k quiet of me = record {
      sound = sound_by (subst (AreOrdered code.sizes.processes) (sym f.labels) labels_after) of me;
      instruction = which ∙ instruction_made;
      told = subst (λ act. IfSome step (λ x. x.told ≡ is_some act)) act_made tells;
      ok = made_step f ∙ ap (λ x. code_step x.code.sizes.processes x.code.instructions p x.state) is;
      err = k;
      silent = λ same. quiet (silent_act same);
      rows = ap length f.rows ∙ length-rows_as code.sizes p in_p one.process.status (next_of code one) m.shared.registers ∙ ap (λ x. length x.state.rows) is;
    }
    stepped (Err e) which tells f k quiet of me = record {
      sound = sound_by (subst (AreOrdered code.sizes.processes) (sym k.labels) sound.labels) of me;
      instruction = which;
      told = tells;
      ok = f;
      err = kept_step k ∙ ap (λ x. x.state) is;
      silent = λ same. quiet (silent_act same);
      rows = ap length k.rows ∙ ap (λ x. length x.state.rows) is;
    }

-- what a machine tells of a process
pub told_of : {X : Type 0} (f : CodeProcess → X) (m : Inside) (p : ℕ) (one : OneProcess) (run : CodeRun) → record { code = m.code.now; state = state_of m } ≡ run
    → one ≡ get_or m.processes.items p one → p < length m.processes.items → slice_get (map f run.state.processes) p ≡ Some (f one.process)
told_of f m p one run e here inside =
    ap (λ x. slice_get (map f x.state.processes) p) (sym e)
    ∙ slice_get-map f (state_of m).processes p
    ∙ ap (option_map f) (slice_get-map (λ x. x.process) m.processes.items p
    ∙ ap (option_map (λ x. x.process)) (held m.processes.items p one here inside))

pub in_range : (m : Inside) (run : CodeRun) (p : ℕ) → record { code = m.code.now; state = state_of m } ≡ run → p < length run.state.processes
    → p < length m.processes.items
in_range m run p e h = omega (arith, ap (λ x. length x.state.processes) e, length-map m.processes.items (λ x. x.process))

-- a process more is made
pub none_new : (code : StepCode) → AreNew code 0 []
none_new _ = record { many = refl; each = λ p one at. absurd (none-some one at) }

pub one_more : (code : StepCode) (k : ℕ) (xs more : List OneProcess) (one : OneProcess) → more ≡ xs ++ one ∷ [] → AreNew code k xs
    → IsOf code one → one.me ≡ k → one.process ≡ start_process code.sizes → AreNew code (k + 1) more
one_more code k xs more one longer new of me start = record {
  many = ap length longer ∙ length-append xs (one ∷ []) ∙ ap (λ j. j + 1) new.many;
  each = λ p x at. ⊎_elim
      (λ old. new.each p x old)
      (λ (there, same). subst (λ y. IsOf code y × (y.me ≡ p) × (y.process ≡ start_process code.sizes)) same (of, me ∙ sym (there ∙ new.many), start))
      (get-snoc xs one p x (sym (ap (λ ys. slice_get ys p) longer) ∙ at));
}

each_starts : (xs : List OneProcess) (q : CodeProcess) → ((p : ℕ) (one : OneProcess) → slice_get xs p ≡ Some one → one.process ≡ q)
    → map (λ x. x.process) xs ≡ replicate (length xs) q
each_starts [] q each = refl
each_starts (x ∷ xs) q each = λ i. each 0 x refl i ∷ each_starts xs q (λ p one at. each (suc p) one at) i

pub processes_new : (code : StepCode) (k : ℕ) (xs : List OneProcess) → AreNew code k xs → map (λ x. x.process) xs ≡ replicate k (start_process code.sizes)
processes_new code k xs new =
    each_starts xs (start_process code.sizes) (λ p one at. (new.each p one at).2) ∙ ap (λ j. replicate j (start_process code.sizes)) new.many

-- one item more of the schedule is done
pub run_more : (n : ℕ) (code : List Instr) (i : ℕ) (schedule : List ℕ) (s s' : CodeState) → i < length schedule
    → s' ≡ code_step n code (get_or schedule i 0) s → code_run n code (drop (i + 1) schedule) s' ≡ code_run n code (drop i schedule) s
run_more n code i schedule s s' inside step =
    let next : i + 1 ≡ suc i = omega arith in
    ap (λ j. code_run n code (drop j schedule) s') next
    ∙ ap (code_run n code (drop (suc i) schedule)) step
    ∙ ap (λ xs. code_run n code xs s) (sym (drop-cons schedule i 0 inside))

-- the whole schedule is done
pub run_done : (n : ℕ) (code : List Instr) (i : ℕ) (schedule : List ℕ) (s last : CodeState) → i ≡ length schedule
    → code_run n code (drop i schedule) s ≡ last → s ≡ last
run_done n code i schedule s last done e =
    ap (λ xs. code_run n code xs s) (sym (ap (λ j. drop j schedule) done ∙ drop-length schedule)) ∙ e

pub statuses_held : (xs : List OneProcess) → map (λ one. one.process.status) xs ≡ map (λ q. q.status) (map (λ x. x.process) xs)
statuses_held [] = refl
statuses_held (x ∷ xs) = ap (λ ss. x.process.status ∷ ss) (statuses_held xs)
