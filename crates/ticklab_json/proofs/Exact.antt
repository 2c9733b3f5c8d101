-- No object has a float, so each has one text: none of a step (`statement_exact`, `instruction_exact`), of a run or a
-- loop that a search has found (`run_told`, `loop_told`), or of what files come to (`findings_exact`).
-- The idea. A member that is put where its key belongs brings no float if its value has none (`put_exact`). The same
-- holds of one that may be left out (`with_exact`), where `IsExact` says that what there is has none. So an object is
-- gone through in the order in which its members are put, from the inside out. Of lists it is an induction
-- (`items_exact`).
-- The difficulty is that many members may be left out, and each doubles the cases. So each has a lemma of its own, for
-- any members that are there before it, and what is there so far has a name (`members_exact`).
-- Read `put_exact` first, then `with_exact` and `members_exact`.
use Rattle.std.proofs.Common.{◌≡◌, ℕ, zero, suc, ◌+◌, ◌==◌, ◌||◌, List, [], ◌∷◌, ◌++◌, map, take, length, Option, Some, None, option_map, Ordering, Less, Equal, Greater, Bool, true, false, true≢false, refl, sym, subst, ap, ◌∙◌, nat_cmp, Ok, Err}
use Rattle.std.specs.Prelude.{codes, if◌then◌else◌, option_and_then, slice_get, ⊤}
use Rattle.std.specs.Cmp.Lexicographic.{slice_cmp}
use Rattle.std.specs.List.{zip}
use Rattle.std.specs.Str.Lossy.{utf8_lossy}
use Rattle.std.specs.Ordering.{match_ordering}
use Rattle.base.specs.Plain.{Name, WholeProgram}
use Rattle.base.specs.declared.event.Act.{Act}
use Rattle.base.specs.declared.event.Act.TheVariants as A
use Rattle.code_core.specs.declared.instr.Instr.{Instr}
use Rattle.code_text.specs.CodeText.{instr_text}
use Rattle.language_properties.specs.Values.{Valued}
use Rattle.language_schedules.specs.Written.{schedule_text}
use Rattle.serde_json.specs.Data.{Data, boolean, string, array, Members, no_members, member, put}
use Rattle.serde_json.specs.View.{items_of}
use Rattle.serde_json.specs.Written.{has_float, items_have_float, members_have_float}
use Rattle.ticklab_check.specs.Wording.{expected_text}
use Rattle.ticklab_check.specs.Words.{states_of}
use Rattle.ticklab_check.specs.declared.checked.Checked.{Checked}
use Rattle.ticklab_check.specs.declared.checked.Checked.TheVariants as C
use Rattle.ticklab_check.specs.declared.reporting.Findings.{Findings}
use Rattle.ticklab_check.specs.declared.source.Source.{Source}
use Rattle.word_core.specs.Stamps.{Labels}
use Rattle.ticklab_trace.specs.Folds.{is_private_act, is_private_made}
use Rattle.ticklab_trace.specs.Places.{Standing}
use Rattle.ticklab_trace.specs.TraceText.{label_rank, ticket_rank}
use Rattle.ticklab_trace.specs.declared.parts.Parts.{Parts}
use Rattle.ticklab_trace.specs.declared.steps.StatementStep.{StatementStep}
use Rattle.ticklab_trace.specs.declared.steps.InstructionStep.{InstructionStep}
use Rattle.ticklab_json.specs.Checks.{file_data, file_list, file_members, findings_data, with_checked, with_states}
use Rattle.ticklab_json.specs.Events.{event_data}
use Rattle.ticklab_json.specs.Found.{fault_text, head_members, lead_in_data, loop_data, run_data}
use Rattle.ticklab_json.specs.Members.{count, with_member}
use Rattle.ticklab_json.specs.declared.found.Head.{Head}
use Rattle.ticklab_json.specs.declared.found.Head.TheVariants.{Says, Runs}
use Rattle.ticklab_json.specs.Steps.{BrokenLine, break_data, breaks_at, broken_at, heading, if_lost, instruction_data, instruction_members, label_order, part_data, private_data, rank_data, ranks_to, start_data, statement_data, statement_list, statement_members, stopped, taken, ticket_order, value_members, with_place, written_data}

left : (a b : Bool) → (a || b) ≡ false → a ≡ false
left false b h = refl
left true b h = h

right : (a b : Bool) → (a || b) ≡ false → b ≡ false
right false b h = h
right true b h = absurd (true≢false h)

both : (a b : Bool) → a ≡ false → b ≡ false → (a || b) ≡ false
both false b ha hb = hb
both true b ha hb = ha

chosen : (o : Ordering) (a b c : Members) → members_have_float a ≡ false → members_have_float b ≡ false → members_have_float c ≡ false
    → members_have_float (match_ordering o a b c) ≡ false
chosen Less a b c ha hb hc = ha
chosen Equal a b c ha hb hc = hb
chosen Greater a b c ha hb hc = hc

pub put_exact : (key : List ℕ) (d : Data) (ms : Members) → has_float d ≡ false → members_have_float ms ≡ false → members_have_float (put key d ms) ≡ false
put_exact key d no_members hd hm = both (has_float d) false hd refl
put_exact key d (member l e ms) hd hm =
    let rest = right (has_float e) (members_have_float ms) hm in
    chosen (slice_cmp nat_cmp key l) (member key d (member l e ms)) (member l d ms) (member l e (put key d ms))
    (both (has_float d) (members_have_float (member l e ms)) hd hm)
    (both (has_float d) (members_have_float ms) hd rest)
    (both (has_float e) (members_have_float (put key d ms)) (left (has_float e) (members_have_float ms) hm) (put_exact key d ms hd rest))

-- what there is has no float
abbrev pub IsExact : Option Data → Type 0
IsExact None = ⊤
IsExact (Some d) = has_float d ≡ false

pub with_exact : (key : List ℕ) (o : Option Data) (ms : Members) → IsExact o → members_have_float ms ≡ false → members_have_float (with_member key o ms) ≡ false
with_exact key None ms ho hm = hm
with_exact key (Some d) ms ho hm = put_exact key d ms ho hm

pub mapped : {X : Type 0} (f : X → Data) → ((x : X) → has_float (f x) ≡ false) → (o : Option X) → IsExact (option_map f o)
mapped f h None = tt
mapped f h (Some x) = h x

pub then_exact : {X : Type 0} (f : X → Option Data) → ((x : X) → IsExact (f x)) → (o : Option X) → IsExact (option_and_then f o)
then_exact f h None = tt
then_exact f h (Some x) = h x

pub items_exact : {X : Type 0} (f : X → Data) → ((x : X) → has_float (f x) ≡ false) → (xs : List X) → items_have_float (items_of (map f xs)) ≡ false
items_exact f h [] = refl
items_exact f h (x ∷ xs) = both (has_float (f x)) (items_have_float (items_of (map f xs))) (h x) (items_exact f h xs)

append_exact : (xs ys : List Data) → items_have_float (items_of xs) ≡ false → items_have_float (items_of ys) ≡ false → items_have_float (items_of (xs ++ ys)) ≡ false
append_exact [] ys hx hy = hy
append_exact (x ∷ xs) ys hx hy =
    both (has_float x) (items_have_float (items_of (xs ++ ys))) (left (has_float x) (items_have_float (items_of xs)) hx)
    (append_exact xs ys (right (has_float x) (items_have_float (items_of xs)) hx) hy)

rank_exact : (rank : Option ℕ) → items_have_float (items_of (rank_data rank ∷ [])) ≡ false
rank_exact None = refl
rank_exact (Some rank) = refl

pub ranks_exact : (rank : ℕ → Option ℕ) (k : ℕ) → items_have_float (items_of (ranks_to rank k)) ≡ false
ranks_exact rank zero = refl
ranks_exact rank (suc k) = append_exact (ranks_to rank k) (rank_data (rank k) ∷ []) (ranks_exact rank k) (rank_exact (rank k))

pub event_exact : (a : WholeProgram Name) (act : Act) → has_float (event_data a act) ≡ false
event_exact a (A.Put r v) = refl
event_exact a (A.Get r i v) = refl
event_exact a A.Stamp = refl
event_exact a A.Clear = refl
event_exact a (A.Scan ranks) =
    both (items_have_float (items_of (map count (take a.processes ranks)))) false (items_exact count (λ n. refl) (take a.processes ranks)) refl
event_exact a (A.Older i j answer) = refl
event_exact a (A.Held i answer) = refl
event_exact a (A.Out v) = refl
event_exact a (A.Trap t) = refl
event_exact a A.End = refl

placed : (spot : Option Standing) (ms : Members) → members_have_float ms ≡ false → members_have_float (with_place spot ms) ≡ false
placed None ms h = h
placed (Some spot) ms h =
    put_exact (codes "statement") (string spot.words) (put (codes "line") (count spot.line) (put (codes "column") (count spot.column) ms)) refl
    (put_exact (codes "line") (count spot.line) (put (codes "column") (count spot.column) ms) refl
    (put_exact (codes "column") (count spot.column) ms refl h))

taken_exact : (p : ℕ) (act : Option Act) (tickets : List ℕ) → IsExact (taken p act tickets)
taken_exact p (Some A.Stamp) tickets = refl
taken_exact p None tickets = tt
taken_exact p (Some (A.Put r v)) tickets = tt
taken_exact p (Some (A.Get r i v)) tickets = tt
taken_exact p (Some A.Clear) tickets = tt
taken_exact p (Some (A.Scan ranks)) tickets = tt
taken_exact p (Some (A.Older i j answer)) tickets = tt
taken_exact p (Some (A.Held i answer)) tickets = tt
taken_exact p (Some (A.Out v)) tickets = tt
taken_exact p (Some (A.Trap t)) tickets = tt
taken_exact p (Some A.End) tickets = tt

stopped_exact : (number : Option ℕ) (act : Option Act) → IsExact (stopped number act)
stopped_exact None None = refl
stopped_exact None (Some act) = tt
stopped_exact (Some k) act = tt

-- by steps, from the inside out
pub members_exact : (a : WholeProgram Name) (spots : List Standing) (k : ℕ) (step : StatementStep) → members_have_float (statement_members a spots k step) ≡ false
members_exact a spots k step =
    let spot = option_and_then (slice_get spots) step.number in
    let a1 = with_place spot (heading k step.process) in
    let h1 : members_have_float a1 ≡ false = placed spot (heading k step.process) refl in
    let a2 = with_member (codes "event") (option_map (event_data a) step.act) a1 in
    let h2 : members_have_float a2 ≡ false = with_exact (codes "event") (option_map (event_data a) step.act) a1 (mapped (event_data a) (event_exact a) step.act) h1 in
    let a3 = with_member (codes "written") (option_map (written_data a) step.written) a2 in
    let h3 : members_have_float a3 ≡ false = with_exact (codes "written") (option_map (written_data a) step.written) a2 (mapped (written_data a) (λ w. refl) step.written) h2 in
    let ticket = option_and_then (taken step.process step.act) step.tickets in
    let a4 = with_member (codes "ticket") ticket a3 in
    let h4 : members_have_float a4 ≡ false = with_exact (codes "ticket") ticket a3 (then_exact (taken step.process step.act) (taken_exact step.process step.act) step.tickets) h3 in
    let order = option_map ticket_order step.tickets in
    let a5 = with_member (codes "order") order a4 in
    let h5 : members_have_float a5 ≡ false = with_exact (codes "order") order a4 (mapped ticket_order (λ t. ranks_exact (ticket_rank t) (length t)) step.tickets) h4 in
    with_exact (codes "stopped") (stopped step.number step.act) a5 (stopped_exact step.number step.act) h5

valued_exact : (v : Valued) → members_have_float (value_members v) ≡ false
valued_exact (Ok v) = refl
valued_exact (Err t) = refl

pub break_exact : (b : BrokenLine) → has_float (break_data b) ≡ false
break_exact b = valued_exact b.value

if_exact : (is : Bool) (d : Data) → has_float d ≡ false → IsExact (if is then Some d else None)
if_exact true d h = h
if_exact false d h = tt

pub broken_exact : (steps : ℕ) (broken : Option BrokenLine) → IsExact (broken_at steps broken)
broken_exact steps broken = then_exact (breaks_at steps) (λ b. if_exact (b.steps == steps) (break_data b) (break_exact b)) broken

part_exact : (parts : Option Parts) (k : ℕ) → IsExact (part_data parts k)
part_exact None k = tt
part_exact (Some parts) k = refl

private_exact : (tells is_private : Bool) → IsExact (private_data tells is_private)
private_exact true is_private = refl
private_exact false is_private = tt

pub statement_exact : (a : WholeProgram Name) (spots : List Standing) (parts : Option Parts) (tells : Bool) (broken : Option BrokenLine) (k : ℕ) (step : StatementStep)
    → has_float (statement_data a spots parts tells broken k step) ≡ false
statement_exact a spots parts tells broken k step =
    let told = with_member (codes "breaks") (broken_at (k + 1) broken) (statement_members a spots k step) in
    let parted = with_member (codes "part") (part_data parts k) told in
    with_exact (codes "private") (private_data tells (is_private_act step.act)) parted (private_exact tells (is_private_act step.act))
    (with_exact (codes "part") (part_data parts k) told (part_exact parts k)
    (with_exact (codes "breaks") (broken_at (k + 1) broken) (statement_members a spots k step) (broken_exact (k + 1) broken) (members_exact a spots k step)))

-- a line that breaks before the first step
pub start_exact : (broken : Option BrokenLine) (d v : Data) → Some d ≡ broken_at 0 broken → v ≡ start_data d → has_float v ≡ false
start_exact broken d v is told =
    let exact : has_float d ≡ false = subst IsExact (sym is) (broken_exact 0 broken) in
    ap has_float told ∙ both (has_float d) false exact refl

-- and what a search has found
steps_exact : (a : WholeProgram Name) (spots : List Standing) (k : ℕ) (steps : List StatementStep)
    → items_have_float (items_of (statement_list a spots None false None k steps)) ≡ false
steps_exact a spots k [] = refl
steps_exact a spots k (step ∷ steps) =
    both (has_float (statement_data a spots None false None k step)) (items_have_float (items_of (statement_list a spots None false None (k + 1) steps)))
    (statement_exact a spots None false None k step) (steps_exact a spots (k + 1) steps)

-- what stands beside a run
head_exact : (head : Head) → members_have_float (head_members head) ≡ false
head_exact (Says line) = refl
head_exact (Runs plan from) = refl

run_exact : (head : Members) → members_have_float head ≡ false → (a : WholeProgram Name) (spots : List Standing) (schedule : List ℕ) (steps : List StatementStep)
    (broken : Option BrokenLine)
    → has_float (run_data head (record { schedule = schedule; trace = statement_list a spots None false None 0 steps; broken = broken })) ≡ false
run_exact head exact a spots schedule steps broken =
    let a1 = put (codes "answer") (string (fault_text broken)) head in
    let h1 : members_have_float a1 ≡ false = put_exact (codes "answer") (string (fault_text broken)) head refl exact in
    let a2 = put (codes "schedule") (string (schedule_text schedule)) a1 in
    let h2 : members_have_float a2 ≡ false = put_exact (codes "schedule") (string (schedule_text schedule)) a1 refl h1 in
    let trace = array (items_of (statement_list a spots None false None 0 steps)) in
    with_exact (codes "breaks") (option_map break_data broken) (put (codes "trace") trace a2) (mapped break_data break_exact broken)
    (put_exact (codes "trace") trace a2 (steps_exact a spots 0 steps) h2)

pub run_told : (head : Head) (a : WholeProgram Name) (spots : List Standing) (schedule : List ℕ) (steps : List StatementStep) (broken : Option BrokenLine)
    (trace : List Data) (v : Data) → trace ≡ statement_list a spots None false None 0 steps
    → v ≡ run_data (head_members head) (record { schedule = schedule; trace = trace; broken = broken }) → has_float v ≡ false
run_told head a spots schedule steps broken trace v same told =
    ap has_float (told ∙ ap (λ t. run_data (head_members head) (record { schedule = schedule; trace = t; broken = broken })) same)
    ∙ run_exact (head_members head) (head_exact head) a spots schedule steps broken

-- and what it has found that repeats for ever
lead_in_exact : (lead_in : List ℕ) → IsExact (lead_in_data lead_in)
lead_in_exact [] = tt
lead_in_exact (p ∷ lead_in) = refl

loop_exact : (answer says : List ℕ) (a : WholeProgram Name) (spots : List Standing) (schedule lead_in cycle : List ℕ) (steps : List StatementStep)
    → has_float (loop_data answer says (record { schedule = schedule; lead_in = lead_in; cycle = cycle; trace = statement_list a spots None false None 0 steps })) ≡ false
loop_exact answer says a spots schedule lead_in cycle steps =
    let trace = array (items_of (statement_list a spots None false None 0 steps)) in
    with_exact (codes "lead_in") (lead_in_data lead_in)
    (member (codes "answer") (string answer) (member (codes "cycle") (string (schedule_text cycle)) (member (codes "says") (string says)
    (member (codes "schedule") (string (schedule_text schedule)) (member (codes "trace") trace no_members)))))
    (lead_in_exact lead_in) (both (has_float trace) false (steps_exact a spots 0 steps) refl)

pub loop_told : (answer says : List ℕ) (a : WholeProgram Name) (spots : List Standing) (schedule lead_in cycle : List ℕ) (steps : List StatementStep)
    (trace : List Data) (v : Data) → trace ≡ statement_list a spots None false None 0 steps
    → v ≡ loop_data answer says (record { schedule = schedule; lead_in = lead_in; cycle = cycle; trace = trace }) → has_float v ≡ false
loop_told answer says a spots schedule lead_in cycle steps trace v same told =
    ap has_float (told ∙ ap (λ t. loop_data answer says (record { schedule = schedule; lead_in = lead_in; cycle = cycle; trace = t })) same)
    ∙ loop_exact answer says a spots schedule lead_in cycle steps

lost_exact : (found : Option Labels) → IsExact (if_lost found)
lost_exact None = tt
lost_exact (Some found) = refl

made_exact : (a : WholeProgram Name) (k : ℕ) (step : InstructionStep) (i : Option Instr) → members_have_float (instruction_members a k step i) ≡ false
made_exact a k step None = refl
made_exact a k step (Some i) =
    let a1 = put (codes "instruction") (string (instr_text i)) (put (codes "place") (count step.place) (heading k step.process)) in
    let a2 = with_member (codes "lost") (if_lost step.lost) a1 in
    let h2 : members_have_float a2 ≡ false = with_exact (codes "lost") (if_lost step.lost) a1 (lost_exact step.lost) refl in
    let a3 = with_member (codes "event") (option_map (event_data a) step.act) a2 in
    let h3 : members_have_float a3 ≡ false = with_exact (codes "event") (option_map (event_data a) step.act) a2 (mapped (event_data a) (event_exact a) step.act) h2 in
    with_exact (codes "order") (option_map label_order step.labels) a3
    (mapped label_order (λ labels. ranks_exact (label_rank labels) (length labels)) step.labels) h3

pub instruction_exact : (a : WholeProgram Name) (tells : Bool) (k : ℕ) (step : InstructionStep) → has_float (instruction_data a tells k step) ≡ false
instruction_exact a tells k step =
    let is_private = is_private_made step.instruction step.lost step.act in
    with_exact (codes "private") (private_data tells is_private) (instruction_members a k step step.instruction) (private_exact tells is_private)
    (made_exact a k step step.instruction)

-- what files come to
states_exact : (states : Option ℕ) (ms : Members) → members_have_float ms ≡ false → members_have_float (with_states states ms) ≡ false
states_exact None ms h = h
states_exact (Some states) ms h =
    put_exact (codes "states") (count states) (put (codes "merged") (boolean true) ms) refl (put_exact (codes "merged") (boolean true) ms refl h)

checked_exact : (checked : Checked) (ms : Members) → members_have_float ms ≡ false → members_have_float (with_checked checked ms) ≡ false
checked_exact (C.Refused report) ms h = put_exact (codes "report") (string (utf8_lossy report.items)) ms refl h
checked_exact (C.Searched found expected lines) ms h =
    let told = put (codes "expected") (string (expected_text expected)) ms in
    put_exact (codes "lines") (count lines) (with_states (states_of found) told) refl
    (states_exact (states_of found) told (put_exact (codes "expected") (string (expected_text expected)) ms refl h))

pub findings_exact : (sources : List Source) (f : Findings) → has_float (findings_data sources f) ≡ false
findings_exact sources f =
    let files = file_list sources f.files.items in
    both (items_have_float (items_of files)) false
    (items_exact (λ file. file_data file.0 file.1) (λ file. checked_exact file.1.checked (file_members file.0 file.1) refl) (zip sources f.files.items)) refl
