-- Lines of the answers.
use Rattle.std.specs.Prelude.{◌++◌, ◌-◌, ◌==◌, ◌&&◌, if◌then◌else◌, min, ℕ, ◌+◌, Bool, true, false, not, List, [], ◌∷◌, codes, string_bytes}
use Rattle.std.specs.Fmt.{decimal}
use Rattle.std.specs.List.{list_any}
use Rattle.base.specs.Lines.{line_end}
use Rattle.language_schedules.specs.Written.{schedule_text}
use Rattle.searches_states.specs.declared.limits.Limits.{Limits}
use Rattle.searches_states.specs.declared.must_stop.MustStop.{MustStop}
use Rattle.searches_states.specs.declared.must_stop.MustStop.TheVariants.{All, Each}
use Rattle.searches_explore.specs.declared.conditions.Conditions.{Conditions}
use Rattle.searches_hunt.specs.declared.plan.Plan.{Plan}
use Rattle.searches_hunt.specs.declared.tallying.counting.Counted.{Counted}

-- The first lines where a trap was found: how it was found, and the schedule.

abbrev pub shortest_line : List ℕ
shortest_line = codes "a process traps under this schedule, and under no shorter one:"

abbrev pub some_line : List ℕ
some_line = codes "a process traps under this schedule:"

abbrev pub minimal_line : List ℕ
minimal_line = codes "a process traps under this schedule, and where any one step is left out none does:"

abbrev pub bounded_line : List ℕ
bounded_line = codes "a process traps under this schedule, and where any one step is left out none does; --single looks for a shortest one:"

-- by whether a shortest one was looked for no further than a bound that nobody asked for
abbrev pub minimal_line_by : Bool → List ℕ
minimal_line_by false = minimal_line
minimal_line_by true = bounded_line

abbrev pub trap_lines : List ℕ → List ℕ → List ℕ
trap_lines found schedule = found ++ line_end ++ schedule_text schedule ++ line_end

-- the schedule, in a line
abbrev pub schedule_alone : List ℕ → List ℕ
schedule_alone schedule = schedule_text schedule ++ line_end

-- so many of them, as `1 run` and `2 runs`
unfoldable pub many : ℕ → List ℕ → List ℕ → List ℕ
many count one more = decimal count ++ codes " " ++ (if count == 1 then one else more)

-- states between merged steps are told as merged
abbrev pub states_text : Bool → ℕ → List ℕ
states_text false count = many count (codes "state") (codes "states")
states_text true count = many count (codes "merged state") (codes "merged states")

abbrev pub counted_text : Bool → ℕ → List ℕ
counted_text is_merged states = codes " (" ++ states_text is_merged states ++ codes ")"

abbrev pub runs_text : ℕ → List ℕ
runs_text count = many count (codes "run") (codes "runs")

abbrev pub steps_text : ℕ → List ℕ
steps_text count = many count (codes "step") (codes "steps")

-- The same where a line `#! never` breaks.

abbrev pub shortest_break_line : List ℕ
shortest_break_line = codes "a #! never line breaks under this schedule, and under no shorter one:"

abbrev pub some_break_line : List ℕ
some_break_line = codes "a #! never line breaks under this schedule:"

abbrev pub minimal_break_line : List ℕ
minimal_break_line = codes "a #! never line breaks under this schedule, and where any one step is left out none does:"

abbrev pub bounded_break_line : List ℕ
bounded_break_line = codes "a #! never line breaks under this schedule, and where any one step is left out none does; --single looks for a shortest one:"

abbrev pub minimal_break_line_by : Bool → List ℕ
minimal_break_line_by false = minimal_break_line
minimal_break_line_by true = bounded_break_line

-- no trap was found, and so many lines `#! never` don't break
abbrev pub safe_text : ℕ → List ℕ
safe_text lines =
    if lines == 0 then codes "no process traps"
    else (codes "no process traps and no #! never line (of " ++ decimal lines ++ codes ") breaks")

abbrev pub safe_line : Bool → ℕ → ℕ → List ℕ
safe_line is_merged lines states = safe_text lines ++ codes " under any schedule" ++ counted_text is_merged states

abbrev pub more_text : Bool → ℕ → List ℕ
more_text is_merged states = codes "there are more than " ++ states_text is_merged states

-- what may help: more of what was met, which is the limit of states where as many are told
abbrev pub larger_text : Limits → ℕ → List ℕ
larger_text limits states = if states == limits.states then codes "a larger --limit" else codes "a larger --memory"

abbrev pub try_text : Bool → List ℕ
try_text true = codes "try "
try_text false = codes "try it without --single, "

abbrev pub next_line : Bool → Limits → ℕ → List ℕ
next_line is_merged limits states = try_text is_merged ++ larger_text limits states ++ codes ", hunt, or fewer processes or rounds\n"

abbrev pub limit_line : Bool → ℕ → List ℕ
limit_line is_merged states = more_text is_merged states ++ codes ": nothing is said of all schedules"

-- how many runs of a plan there are from this one on, of which the last is 4294967294; and what they are
abbrev pub runs_from : Plan → ℕ → ℕ
runs_from plan from = min plan.runs (4294967295 - from)

abbrev pub from_text : ℕ → List ℕ
from_text from = if from == 0 then [] else (codes ", from run " ++ decimal from)

abbrev pub plan_text : Plan → ℕ → List ℕ
plan_text plan from = codes " of at most " ++ steps_text plan.steps ++ codes " of seed " ++ decimal plan.seed ++ from_text from

-- whether a line `#! ends` of the file isn't asked
abbrev pub unasked_text : Bool → List ℕ
unasked_text false = []
unasked_text true = codes "; #! ends is not asked"

abbrev pub nothing_line : ℕ → Plan → ℕ → Bool → List ℕ
nothing_line lines plan from ends_unasked =
    safe_text lines ++ codes " in " ++ runs_text (runs_from plan from) ++ plan_text plan from ++ unasked_text ends_unasked ++ codes "\n"

-- how many of so many runs came to an outcome, and the outcome
abbrev pub count_text : ℕ → Counted → List ℕ
count_text times counted = decimal counted.times ++ codes " of " ++ runs_text times ++ codes ":\n" ++ string_bytes counted.outcome

abbrev pub count_texts : ℕ → List Counted → List ℕ
count_texts times [] = []
count_texts times (counted ∷ counts) = count_text times counted ++ count_texts times counts

-- The lines of `explore --ends`.

-- the numbers, counted from this one, at which there is a `true`
abbrev pub marked : ℕ → List Bool → List ℕ
marked p [] = []
marked p (true ∷ marks) = p ∷ marked (p + 1) marks
marked p (false ∷ marks) = marked (p + 1) marks

-- a number, and these others behind commas and the last behind `and`
abbrev pub numbers_text : ℕ → List ℕ → List ℕ
numbers_text p [] = decimal p
numbers_text p (q ∷ []) = decimal p ++ codes " and " ++ decimal q
numbers_text p (q ∷ r ∷ more) = decimal p ++ codes ", " ++ numbers_text q (r ∷ more)

abbrev pub processes_text : List ℕ → List ℕ
processes_text [] = codes "no process"
processes_text (p ∷ []) = codes "process " ++ decimal p
processes_text (p ∷ q ∷ more) = codes "processes " ++ numbers_text p (q ∷ more)

-- who is asked for
abbrev pub asked_text : MustStop → List ℕ
asked_text All = codes "all processes"
asked_text (Each marks) = processes_text (marked 0 marks)

abbrev pub is_nobody : MustStop → Bool
is_nobody All = false
is_nobody (Each marks) = not (list_any (λ mark. mark) marks)

-- The first lines. Before what is found of the ends stands what `explore` finds: nothing is wrong, and so many lines
-- `#! never` don't break.
abbrev pub quiet_text : ℕ → List ℕ
quiet_text lines = safe_text lines ++ codes " under any schedule"

-- What is found of those who are asked under each condition, where somebody is.

-- they can always end; and they do, where each process that runs steps again and again
abbrev pub fair_text : MustStop → List ℕ
fair_text asked =
    if is_nobody asked then []
    else (codes "; " ++ asked_text asked ++ codes " can still end after every schedule, and will if each that runs steps again and again")

-- whether one of these is marked, and no other
abbrev pub has_one : List Bool → Bool
has_one [] = false
has_one (true ∷ marks) = not (list_any (λ mark. mark) marks)
has_one (false ∷ marks) = has_one marks

-- whether one process is asked for, and no other
abbrev pub is_one : MustStop → Bool
is_one All = false
is_one (Each marks) = has_one marks

abbrev pub are_text : MustStop → List ℕ
are_text asked = if is_one asked then codes " is " else codes " are "

-- what they are, where somebody is asked
abbrev pub named_text : MustStop → List ℕ → List ℕ
named_text asked what = if is_nobody asked then [] else (codes "; " ++ asked_text asked ++ are_text asked ++ what)

abbrev pub wait_free_text : MustStop → List ℕ
wait_free_text asked = named_text asked (codes "wait-free: whoever of them steps again and again ends, though others stop anywhere")

abbrev pub alone_text : MustStop → List ℕ
alone_text asked = named_text asked (codes "obstruction-free: after any schedule each of them ends once it steps alone")

-- nobody is asked under any
abbrev pub is_empty : Conditions → Bool
is_empty asked = is_nobody asked.fair && is_nobody asked.wait_free && is_nobody asked.alone

abbrev pub ends_text : Conditions → List ℕ
ends_text asked =
    if is_empty asked then codes "; no process is asked whether it can end"
    else (fair_text asked.fair ++ wait_free_text asked.wait_free ++ alone_text asked.alone)

abbrev pub ends_line : Bool → ℕ → Conditions → ℕ → List ℕ
ends_line is_merged lines asked states = quiet_text lines ++ ends_text asked ++ counted_text is_merged states

-- this process steps again and again and doesn't end, where others stop
abbrev pub not_wait_free_line : ℕ → Conditions → ℕ → List ℕ
not_wait_free_line lines asked p =
    quiet_text lines ++ fair_text asked.fair ++ codes "; process " ++ decimal p
    ++ codes " is not wait-free: under this schedule it steps again and again and never ends:"

-- this process doesn't end by its steps alone
abbrev pub not_alone_line : ℕ → Conditions → ℕ → List ℕ
not_alone_line lines asked p =
    quiet_text lines ++ fair_text asked.fair ++ wait_free_text asked.wait_free ++ codes "; process " ++ decimal p
    ++ codes " is not obstruction-free: after this schedule it steps alone and never ends:"

-- they can always end, and under an endless schedule they don't
abbrev pub endless_line : ℕ → MustStop → List ℕ
endless_line lines asked =
    quiet_text lines ++ codes "; " ++ asked_text asked
    ++ codes " can still end after every schedule, but not under this one, in which each that runs steps again and again:"

-- whether the schedule is a shortest
abbrev pub shorter_text : Bool → List ℕ
shorter_text is_merged = if is_merged then codes ":" else codes ", and after each shorter one some do:"

-- they can't end any more
abbrev pub stuck_line : Bool → ℕ → MustStop → List ℕ
stuck_line is_merged lines asked =
    quiet_text lines ++ codes "; after this schedule no further steps end " ++ asked_text asked ++ shorter_text is_merged

-- the steps that lead on to those that repeat for ever
abbrev pub lead_in_line : List ℕ
lead_in_line = codes "then these steps:"

-- whether somebody writes in the steps that repeat for ever
abbrev pub cycle_line : Bool → List ℕ
cycle_line true = codes "then these again and again, in which they write and never get on:"
cycle_line false = codes "then these again and again, in which nobody writes:"

-- there is no such process
abbrev pub no_process_line : ℕ → List ℕ
no_process_line p = codes "--ends: error: there is no process " ++ decimal p ++ codes "\n"

-- The lines of `lasso`.

-- round the loop these processes run for ever
abbrev pub loop_line : List ℕ → List ℕ
loop_line running = codes "it is a loop of " ++ processes_text running ++ codes " that never stops, and it begins after these steps:"

abbrev pub stopped_line : List ℕ
stopped_line = codes "it is no loop: after PREFIX no process runs that has to end\n"

abbrev pub left_out_line : ℕ → List ℕ
left_out_line p = codes "it is no loop: process " ++ decimal p ++ codes " runs after PREFIX and makes no step of CYCLE\n"

abbrev pub open_line : List ℕ
open_line = codes "it is no loop: CYCLE leads to another state than PREFIX does\n"

-- a program that is too long for it
abbrev pub long_line : List ℕ
long_line = codes "there are more than 268435455 statements: nothing is said of the loop\n"
