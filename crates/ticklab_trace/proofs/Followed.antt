-- A process that runs comes from number to number as the program does (`came`). `step_is` says that a step is
-- told rightly: the number of its statement, its act, the variable that it wrote, and the tickets.
-- `code_told` says it of the act of a code's step.
-- The idea. Where the process goes on after a statement, one of two blocks remains, by whether its test is 0
-- (`does_on`). The link of a number has two numbers, at which just these remain. So the number that is taken
-- is right (`follows`).
-- The difficulty. A link has the statement of its number, and the machine has what remains. These blocks are
-- equal, so their first statements are, and what follows them (`first_or`, `after_first`). Where there is no
-- link nothing remains (`past_end`). Nothing is claimed of where a stopped process is.
-- Read `does_on` first, then `follows`.
use Rattle.std.proofs.Common.{◌≡◌, ℕ, zero, suc, ◌<◌, ◌≤◌, Bool, true, false, List, [], ◌∷◌, ◌++◌, length, refl, ap, ◌∙◌, sym, subst, arith, map, Option, Some, None, Result, Ok, Err}
use Rattle.std.specs.Prelude.{nat_lt, slice_get, slice_set, slice_index, if◌then◌else◌, option_and_then, option_map}
use Rattle.std.proofs.lemmas.Bool.{both_ways}
use Rattle.std.proofs.lemmas.Option.{same_Some, none-some, slice_get_past, slice_get_within, slice_get-get_or}
use Rattle.std.proofs.lemmas.List.{get_or_past}
use Rattle.base.specs.declared.status.Trap.{Trap}
use Rattle.base.specs.declared.status.Trap.TheVariants as T
use Rattle.base.specs.declared.event.Act.{Act}
use Rattle.base.specs.declared.event.Act.TheVariants as A
use Rattle.base.specs.declared.event.Event.{Event}
use Rattle.base.specs.declared.status.Status.{Status}
use Rattle.base.specs.declared.status.Status.TheVariants.{Running, Ended, Trapped}
use Rattle.base.specs.Observables.{told}
use Rattle.base.specs.Plain.{Statement, assign, get, put, stamp, clear, scan, copy, older, held, out, branch, repeat, Block, nil, cons, onto}
use Rattle.tick_kinds.specs.Resolved.{resolved_statement}
use Rattle.tick_source.specs.Values.{value}
use Rattle.tick_source.specs.Source.{SourceProcess, SourceState, SourceStep, with_value, does, did, source_step, step_of, step_as, statuses_of}
use Rattle.code_core.specs.declared.instr.Instr.{Instr}
use Rattle.code_machine.specs.Machine as C
use Rattle.ticklab_trace.specs.declared.links.Link.{Link}
use Rattle.ticklab_trace.specs.Numbers.{remains, IsNumber}
use Rattle.ticklab_trace.specs.StatementSteps.{running_as, running_at, remaining, first_taken, first_target, target, wrote, IsStatementStep}
use Rattle.ticklab_trace.specs.declared.steps.Scanned.{Scanned}
use Rattle.ticklab_trace.specs.declared.steps.Written.{Written}
use Rattle.ticklab_trace.specs.Shown.{shown}
use Rattle.ticklab_trace.specs.prover.Links.{rest_next, rest_past, rest_at, IsTable, is_zero, is_past, went, HasCome, link_at, linked_taken, linked_target}

is_running : Status → Bool
is_running Running = true
is_running _ = false

trapped_apart : (t : Trap) → Trapped t ≡ Running → ⊥
unfolding is_running
trapped_apart t e = both_ways false refl (ap is_running e)

module _ (n p : ℕ) (tickets : List ℕ) (rows : List (List ℕ)) (variables : List ℕ) (scans : List (List ℕ)) where
  -- where the process goes on after the step, this remains
  abbrev GoesTo : Block ℕ → SourceStep → Type 0
  GoesTo rest d = d.process.status ≡ Running → d.process.rest ≡ rest

  valued : (rest to : Block ℕ) (x : Result ℕ Trap) (f : ℕ → SourceStep) → ((v : ℕ) → x ≡ Ok v → GoesTo to (f v))
      → GoesTo to (with_value n p tickets rows variables scans rest x f)
  valued rest to (Ok v) f each = each v refl
  valued rest to (Err t) f each = λ e. absurd (trapped_apart t e)

  index_in : (rest to : Block ℕ) (b : Bool) (d : SourceStep) → GoesTo to d
      → GoesTo to (if b then d else record { tickets = tickets; rows = rows; process = record { variables = variables; scans = scans; rest = rest; status = Trapped T.Index }; act = Some (A.Trap T.Index) })
  index_in rest to true d goes_to = goes_to
  index_in rest to false d goes_to = λ e. absurd (trapped_apart T.Index e)

  -- what remains after a statement
  pub does_on : (s : Statement ℕ) (rest : Block ℕ)
      → GoesTo (if is_past n p variables s then rest_past s rest else rest_next s rest) (does n p tickets rows variables scans s rest)
  does_on (assign x e) rest = valued rest rest (value n p variables e) _ (λ v is same. refl)
  does_on (get x r e) rest = valued rest rest (value n p variables e) _ (λ i is. index_in rest rest (nat_lt i n) _ (λ same. refl))
  does_on (put r e) rest = valued rest rest (value n p variables e) _ (λ v is same. refl)
  does_on stamp rest = λ same. refl
  does_on clear rest = λ same. refl
  does_on (scan s) rest = λ same. refl
  does_on (copy t s) rest = λ same. refl
  does_on (older x s e f) rest =
      valued rest rest (value n p variables e) _ (λ i is. valued rest rest (value n p variables f) _ (λ j is'.
      index_in rest rest (nat_lt i n) _ (index_in rest rest (nat_lt j n) _ (λ same. refl))))
  does_on (held x s e) rest = valued rest rest (value n p variables e) _ (λ i is. index_in rest rest (nat_lt i n) _ (λ same. refl))
  does_on (out e) rest = valued rest rest (value n p variables e) _ (λ v is same. refl)
  does_on (branch e a b) rest =
      valued rest _ (value n p variables e) _ (λ v is same. ap (λ x. if is_zero x then onto b rest else onto a rest) (sym is))
  does_on (repeat e a) rest =
      valued rest _ (value n p variables e) _ (λ v is same. ap (λ x. if is_zero x then rest else onto a (cons (repeat e a) rest)) (sym is))

-- the first statement of two blocks that are one, and what follows it
first_or : Statement ℕ → Block ℕ → Statement ℕ
first_or s nil = s
first_or s (cons t b) = t

after_first : Block ℕ → Block ℕ
after_first nil = nil
after_first (cons s b) = b

is_nil : Block ℕ → Bool
is_nil nil = true
is_nil (cons s b) = false

either : (R : ℕ → Block ℕ) (b : Bool) (past next : ℕ) → R (if b then past else next) ≡ (if b then R past else R next)
either R true past next = refl
either R false past next = refl

either_of : (b : Bool) (x y x' y' : Block ℕ) → x ≡ x' → y ≡ y' → (if b then x else y) ≡ (if b then x' else y')
either_of true x y x' y' e f = e
either_of false x y x' y' e f = f

none_past : {X : Type 0} (xs : List X) (k : ℕ) → slice_get xs k ≡ None → length xs ≤ k
none_past [] k none = omega arith
none_past (x ∷ xs) zero none = absurd (none-some x (sym none))
none_past (x ∷ xs) (suc k) none = omega (arith, none_past xs k none)

module _ (body : Block ℕ) (links : List Link) (table : IsTable body links) (k : ℕ) where
  -- where there is no link nothing remains
  past_end : slice_get links k ≡ None → rest_at body k ≡ nil
  past_end none = get_or_past (remains body nil) k nil (omega (arith, none_past links k none, table.count))

  -- the statement of a link is the first of what remains
  pub first_is : (rest : Block ℕ) (o : Option Link) → slice_get links k ≡ o → rest_at body k ≡ rest → first_target rest ≡ linked_target o
  first_is rest None none at = ap first_target (sym at ∙ past_end none)
  first_is rest (Some link) is at = ap first_target (sym at ∙ (table.each k link is).here)

  pub taken_is : (rest : Block ℕ) (o : Option Link) → slice_get links k ≡ o → rest_at body k ≡ rest → first_taken rest ≡ linked_taken o
  taken_is rest None none at = ap first_taken (sym at ∙ past_end none)
  taken_is rest (Some link) is at = ap first_taken (sym at ∙ (table.each k link is).here)

  pub number_is : (rest : Block ℕ) (o : Option Link) → slice_get links k ≡ o → rest_at body k ≡ rest → IsNumber body (option_map (λ link. k) o) rest
  number_is rest None none at = sym at ∙ past_end none
  number_is rest (Some link) is at =
      slice_get-get_or (remains body nil) k nil (omega (arith, slice_get_within links k link is, table.count)) ∙ ap Some at

  -- where the first statement that remains is done
  module _ (n p : ℕ) (tickets : List ℕ) (rows : List (List ℕ)) (variables : List ℕ) (scans : List (List ℕ)) where
    follows : (rest : Block ℕ) (o : Option Link) → slice_get links k ≡ o → rest_at body k ≡ rest → (did n p tickets rows variables scans rest).process.status ≡ Running
        → rest_at body (went n p variables k o) ≡ (did n p tickets rows variables scans rest).process.rest
    unfolding is_running is_nil first_or after_first
    follows nil o is at runs = absurd (both_ways false refl (ap is_running runs))
    follows (cons s rest) None none at runs = absurd (both_ways false refl (ap is_nil (sym at ∙ past_end none)))
    follows (cons s rest) (Some link) is at runs =
        let linked = table.each k link is in
        let statement = resolved_statement link.statement.now in
        let whole : cons statement linked.rest ≡ cons s rest = sym linked.here ∙ at in
        let same : statement ≡ s = ap (first_or s) whole in
        let after : linked.rest ≡ rest = ap after_first whole in
        let past = is_past n p variables statement in
        either (rest_at body) past link.past link.next
        ∙ either_of past _ _ _ _ linked.past linked.next
        ∙ ap (λ x. if is_past n p variables x then rest_past x linked.rest else rest_next x linked.rest) same
        ∙ ap (λ r. if is_past n p variables s then rest_past s r else rest_next s r) after
        ∙ sym (does_on n p tickets rows variables scans s rest runs)

come_if : (body : Block ℕ) (k : ℕ) (q : SourceProcess) (status : Status) → (status ≡ Running → rest_at body k ≡ q.rest) → HasCome body k (running_as q status)
come_if body k q Running at = at refl
come_if body k q Ended at = tt
come_if body k q (Trapped t) at = tt

pub get_set : {X : Type 0} (xs : List X) (i : ℕ) (y : X) → i < length xs → slice_get (slice_set xs i y) i ≡ Some y
get_set [] i y inside = absurd (omega (arith, inside))
get_set (x ∷ xs) zero y inside = refl
get_set (x ∷ xs) (suc i) y inside = get_set xs i y (omega (arith, inside))

pub get_set_other : {X : Type 0} (xs : List X) (i k : ℕ) (y : X) → (k ≡ i → ⊥) → slice_get (slice_set xs i y) k ≡ slice_get xs k
get_set_other [] i k y other = refl
get_set_other (x ∷ xs) zero zero y other = absurd (other refl)
get_set_other (x ∷ xs) zero (suc k) y other = refl
get_set_other (x ∷ xs) (suc i) zero y other = refl
get_set_other (x ∷ xs) (suc i) (suc k) y other = get_set_other xs i k y (λ same. other (ap suc same))

process_of : (processes : List SourceProcess) (p : ℕ) (variables : List ℕ) → slice_get (map (λ q. q.variables) processes) p ≡ Some variables
    → (q : SourceProcess) × (slice_get processes p ≡ Some q) × (q.variables ≡ variables)
process_of [] p variables is = absurd (none-some variables is)
process_of (q ∷ qs) zero variables is = (q, refl, same_Some q.variables variables is)
process_of (q ∷ qs) (suc p) variables is = process_of qs p variables is

-- The step of process `p`, which has come to number `k`.
module _ (body : Block ℕ) (links : List Link) (table : IsTable body links) (n p k : ℕ) (s : SourceState) where
  came_status : (q : SourceProcess) → slice_get s.processes p ≡ Some q → (status : Status) → q.status ≡ status → HasCome body k (running_as q status)
      → HasCome body (went n p q.variables k (slice_get links k)) (running_at p (step_as n p s q status))
  came_status q is Running runs at =
      let d = did n p s.tickets s.rows q.variables q.scans q.rest in
      let next = went n p q.variables k (slice_get links k) in
      subst (λ o. HasCome body next (option_and_then (λ x. running_as x x.status) o))
      (sym (get_set s.processes p d.process (slice_get_within s.processes p q is)))
      (come_if body next d.process d.process.status
      (follows body links table k n p s.tickets s.rows q.variables q.scans q.rest (slice_get links k) refl at))
  came_status q is Ended ended at =
      subst (λ o. HasCome body (went n p q.variables k (slice_get links k)) (option_and_then (λ x. running_as x x.status) o)) (sym is)
      (subst (λ status. HasCome body (went n p q.variables k (slice_get links k)) (running_as q status)) (sym ended) tt)
  came_status q is (Trapped t) trapped at =
      subst (λ o. HasCome body (went n p q.variables k (slice_get links k)) (option_and_then (λ x. running_as x x.status) o)) (sym is)
      (subst (λ status. HasCome body (went n p q.variables k (slice_get links k)) (running_as q status)) (sym trapped) tt)

  came_as : (q : SourceProcess) → slice_get s.processes p ≡ Some q → HasCome body k (option_and_then (λ x. running_as x x.status) (Some q))
      → HasCome body (went n p q.variables k (slice_get links k)) (running_at p (step_of n p s (Some q)))
  came_as q is at = came_status q is q.status refl at

  pub came : (variables : List ℕ) → slice_get (map (λ q. q.variables) s.processes) p ≡ Some variables → HasCome body k (running_at p s)
      → HasCome body (went n p variables k (slice_get links k)) (running_at p (source_step n p s))
  came variables its at =
      let found = process_of s.processes p variables its in
      let q = found.0 in
      subst (λ v. HasCome body (went n p v k (slice_get links k)) (running_at p (source_step n p s))) found.2
      (subst (λ o. HasCome body (went n p q.variables k (slice_get links k)) (running_at p (step_of n p s o))) (sym found.1)
      (came_as q found.1 (subst (λ o. HasCome body k (option_and_then (λ x. running_as x x.status) o)) found.1 at)))

-- What a machine tells of a process: where it runs, and with which variables.
status_process : (processes : List SourceProcess) (p : ℕ) (status : Status) → slice_get (map (λ q. q.status) processes) p ≡ Some status
    → (q : SourceProcess) × (slice_get processes p ≡ Some q) × (q.status ≡ status)
status_process [] p status is = absurd (none-some status is)
status_process (q ∷ qs) zero status is = (q, refl, same_Some q.status status is)
status_process (q ∷ qs) (suc p) status is = status_process qs p status is

running_is : (s : SourceState) (p : ℕ) (status : Status) → slice_get (statuses_of s) p ≡ Some status
    → (q : SourceProcess) × (slice_get s.processes p ≡ Some q) × (running_at p s ≡ running_as q status)
running_is s p status is =
    let found = status_process s.processes p status is in
    let q = found.0 in (
      q,
      found.1,
      ap (option_and_then (λ x. running_as x x.status)) found.1 ∙ ap (running_as q) found.2,
    )

pub wrote_running : (s : SourceState) (p x : ℕ) (variables : List ℕ) → slice_get (statuses_of s) p ≡ Some Running
    → slice_get (map (λ q. q.variables) s.processes) p ≡ Some variables
    → wrote (Some x) (running_at p s) ≡ Some (record { variable = x; value = slice_index variables x })
wrote_running s p x variables runs its =
    let found = running_is s p Running runs in
    let q = found.0 in
    let held = process_of s.processes p variables its in
    let same : held.0 ≡ q = same_Some held.0 q (sym held.1 ∙ found.1) in
    let theirs : q.variables ≡ variables = ap (λ x. x.variables) (sym same) ∙ held.2 in
    ap (wrote (Some x)) found.2 ∙ ap (λ v. Some (record { variable = x; value = slice_index v x })) theirs

wrote_none : (target : Option ℕ) → wrote target None ≡ None
wrote_none None = refl
wrote_none (Some x) = refl

not_running : (q : SourceProcess) (status : Status) → (status ≡ Running → ⊥) → running_as q status ≡ None
not_running q Running stopped = absurd (stopped refl)
not_running q Ended stopped = refl
not_running q (Trapped t) stopped = refl

pub wrote_stopped : (s : SourceState) (p : ℕ) (target : Option ℕ) (status : Status) → slice_get (statuses_of s) p ≡ Some status → (status ≡ Running → ⊥)
    → wrote target (running_at p s) ≡ None
wrote_stopped s p target status is stopped =
    let found = running_is s p status is in
    ap (wrote target) (found.2 ∙ not_running found.0 status stopped) ∙ wrote_none target

get_last : {X : Type 0} (xs : List X) (y : X) → slice_get (xs ++ y ∷ []) (length xs) ≡ Some y
get_last [] y = refl
get_last (x ∷ xs) y = get_last xs y

-- What others see of a step is the event that it added.
added : (p : ℕ) (a : Option Act) (events : List Event) → option_map (λ e. e.act) (slice_get (told p a events) (length events)) ≡ a
added p None events = ap (option_map (λ e. e.act)) (slice_get_past events (length events) (omega arith))
added p (Some a) events = ap (option_map (λ e. e.act)) (get_last events (record { process = p; act = a }))

pub told_as : (p : ℕ) (a act : Option Act) (events after : List Event) → after ≡ told p a events
    → act ≡ option_map (λ e. e.act) (slice_get after (length events)) → after ≡ told p act events
told_as p a act events after is act_is =
    is ∙ ap (λ x. told p x events) (sym (act_is ∙ ap (λ l. option_map (λ e. e.act) (slice_get l (length events))) is ∙ added p a events))

told_status : (n p : ℕ) (s : SourceState) (q : SourceProcess) (status : Status) → (a : Option Act) × ((step_as n p s q status).events ≡ told p a s.events)
told_status n p s q Running = ((did n p s.tickets s.rows q.variables q.scans q.rest).act, refl)
told_status n p s q Ended = (None, refl)
told_status n p s q (Trapped t) = (None, refl)

told_of : (n p : ℕ) (s : SourceState) (o : Option SourceProcess) → (a : Option Act) × ((step_of n p s o).events ≡ told p a s.events)
told_of n p s None = (None, refl)
told_of n p s (Some q) = told_status n p s q q.status

-- What a step is told as.
module _ (body : Block ℕ) (links : List Link) (table : IsTable body links) (number : ℕ) where
  number_as : (q : SourceProcess) (status : Status) → HasCome body number (running_as q status)
      → IsNumber body (option_map (λ link. number) (link_at links number status)) (remaining (running_as q status))
  number_as q Running at = number_is body links table number q.rest (slice_get links number) refl at
  number_as q Ended at = refl
  number_as q (Trapped t) at = refl

  target_as : (q : SourceProcess) (status : Status) → HasCome body number (running_as q status)
      → first_target (remaining (running_as q status)) ≡ linked_target (link_at links number status)
  target_as q Running at = first_is body links table number q.rest (slice_get links number) refl at
  target_as q Ended at = refl
  target_as q (Trapped t) at = refl

  taken_as : (q : SourceProcess) (status : Status) → HasCome body number (running_as q status)
      → first_taken (remaining (running_as q status)) ≡ linked_taken (link_at links number status)
  taken_as q Running at = taken_is body links table number q.rest (slice_get links number) refl at
  taken_as q Ended at = refl
  taken_as q (Trapped t) at = refl

  pub step_is : (n p : ℕ) (s s' : SourceState) (status : Status) (link : Option Link) (num : Option ℕ) (act : Option Act) (written : Option Written) (scanned : Option Scanned) (tickets : Option (List ℕ))
      → HasCome body number (running_at p s) → slice_get (statuses_of s) p ≡ Some status → s' ≡ source_step n p s
      → link ≡ link_at links number status → num ≡ option_map (λ link. number) link
      → act ≡ option_map (λ e. e.act) (slice_get s'.events (length s.events))
      → written ≡ wrote (linked_target link) (running_at p s') → scanned ≡ linked_taken link → tickets ≡ shown act s'.tickets
      → IsStatementStep body p s s' (record { process = p; number = num; act = act; written = written; scanned = scanned; tickets = tickets })
  step_is n p s s' status link num act written scanned tickets at its made link_is num_is act_is written_is scanned_is tickets_is =
      let found = running_is s p status its in
      let q = found.0 in
      let here : HasCome body number (running_as q status) = subst (HasCome body number) found.2 at in
      let event = told_of n p s (slice_get s.processes p) in
      record {
        process = refl;
        number = subst (λ o. IsNumber body o (remaining (running_at p s))) (sym (num_is ∙ ap (option_map (λ link. number)) link_is))
            (subst (λ o. IsNumber body (option_map (λ link. number) (link_at links number status)) (remaining o)) (sym found.2) (number_as q status here));
        act = told_as p event.0 act s.events s'.events (ap (λ x. x.events) made ∙ event.1) act_is;
        written = written_is
            ∙ ap (λ o. wrote (linked_target o) (running_at p s')) link_is
            ∙ ap (λ x. wrote x (running_at p s')) (sym (target_as q status here) ∙ ap (λ o. first_target (remaining o)) (sym found.2));
        scanned = scanned_is ∙ ap linked_taken link_is ∙ sym (taken_as q status here) ∙ ap (λ o. first_taken (remaining o)) (sym found.2);
        tickets = tickets_is;
      }

-- The same of a step of a code.
code_status : (n : ℕ) (code : List Instr) (p : ℕ) (s : C.CodeState) (q : C.CodeProcess) (status : Status)
    → (a : Option Act) × ((C.step_as n code p s q status).events ≡ told p a s.events)
code_status n code p s q Running = ((C.made s.labels s.rows (C.did n p code q)).act, refl)
code_status n code p s q Ended = (None, refl)
code_status n code p s q (Trapped t) = (None, refl)

code_of : (n : ℕ) (code : List Instr) (p : ℕ) (s : C.CodeState) (o : Option C.CodeProcess) → (a : Option Act) × ((C.step_of n code p s o).events ≡ told p a s.events)
code_of n code p s None = (None, refl)
code_of n code p s (Some q) = code_status n code p s q q.status

pub code_told : (n : ℕ) (code : List Instr) (p : ℕ) (s after : C.CodeState) (act : Option Act) → after ≡ C.code_step n code p s
    → act ≡ option_map (λ e. e.act) (slice_get after.events (length s.events)) → after.events ≡ told p act s.events
code_told n code p s after act made act_is =
    let event = code_of n code p s (slice_get s.processes p) in
    told_as p event.0 act s.events after.events (ap (λ x. x.events) made ∙ event.1) act_is
