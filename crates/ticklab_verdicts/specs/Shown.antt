-- What `explore` and `hunt` show of a program: a text, the schedule in it alone, or an object. Where there is no schedule the
-- second is empty.
use Rattle.std.specs.Prelude.{◌≡◌, ◌++◌, ℕ, Bool, true, false, List, [], ◌∷◌, codes, length, slice_get, Option, None, Some}
use Rattle.base.specs.Lines.{line_end}
use Rattle.base.specs.Plain.{Name, WholeProgram}
use Rattle.language_properties.specs.Values.{Valued}
use Rattle.searches_states.specs.declared.verdict.Verdict.{Verdict}
use Rattle.searches_states.specs.declared.verdict.Verdict.TheVariants.{Found, Nowhere, Limit}
use Rattle.searches_fairness.specs.declared.liveness.Liveness.{Liveness}
use Rattle.searches_wait_free.specs.declared.answer.OwnSteps.{OwnSteps}
use Rattle.searches_wait_free.specs.declared.answer.OwnSteps.TheVariants as O
use Rattle.searches_explore.specs.declared.conditions.Conditions.{Conditions}
use Rattle.searches_explore.specs.declared.conditions.Known.{Known}
use Rattle.searches_fairness.specs.declared.liveness.Liveness.TheVariants as L
use Rattle.searches_explore.specs.declared.fault.Fault.{Fault}
use Rattle.searches_explore.specs.declared.fault.Fault.TheVariants.{Trapped, Broken}
use Rattle.searches_states.specs.declared.limits.Limits.{Limits}
use Rattle.searches_states.specs.declared.must_stop.MustStop.{MustStop}
use Rattle.searches_hunt.specs.declared.plan.Plan.{Plan}
use Rattle.serde_json.specs.Data.{Members}
use Rattle.ticklab_explain.specs.Questions.{IsPointed}
use Rattle.ticklab_json.specs.Found.{says_members, states_data}
use Rattle.ticklab_json.specs.Hunts.{empty_hunt_data, plan_members}
use Rattle.ticklab_json.specs.Members as J
use Rattle.ticklab_files.specs.Asking.{TextPlace}
use Rattle.ticklab_verdicts.specs.BySteps.{break_line_by, line_by}
use Rattle.ticklab_line.specs.declared.asking.Output.{Output}
use Rattle.ticklab_line.specs.declared.asking.Output.TheVariants.{Text, ScheduleAlone, Json}
use Rattle.ticklab_runs.specs.Lines.{broken_text}
use Rattle.ticklab_verdicts.specs.Lines.{endless_line, ends_line, limit_line, minimal_break_line, minimal_line, next_line, not_alone_line, not_wait_free_line, nothing_line, safe_line, schedule_alone, stuck_line, trap_lines}
use Rattle.ticklab_verdicts.specs.Loops.{IsLoopObject, IsLoopText}
use Rattle.ticklab_files.specs.Responses.{Gives}
use Rattle.ticklab_verdicts.specs.RunObjects.{IsBreakObject, IsRunObject}
use Rattle.ticklab_runs.specs.Runs.{IsStatementTrace}
use Rattle.ticklab_verdicts.specs.Sought.{Sought}
use Rattle.ticklab_files.specs.declared.response.Response.{Response}

-- How a trap was found, the schedule, and what each of its steps does.
pub record IsTrapText (found input : List ℕ) (a : WholeProgram Name) (schedule out : List ℕ) : Type 0 where
  pub trace : List ℕ
  pub traced : IsStatementTrace input a schedule trace
  pub whole : out ≡ trap_lines found schedule ++ trace

-- How a line was found that breaks, the schedule, what each of its steps does, and the line with what it comes to.
pub record IsBrokenText (found input : List ℕ) (a : WholeProgram Name) (schedule : List ℕ) (place : TextPlace) (v : Valued) (out : List ℕ) : Type 0 where
  pub traced : List ℕ
  pub is_traced : IsTrapText found input a schedule traced
  pub pointed : List ℕ
  pub is_pointed : IsPointed place.name place.text place.span (broken_text v) pointed
  pub whole : out ≡ traced ++ pointed

-- How it was found a text says in a line, an object in members, and a schedule alone not at all.

abbrev pub IsTrapAnswer : Output → List ℕ → Members → List ℕ → WholeProgram Name → List ℕ → List ℕ → Type 0
IsTrapAnswer Text found head input a schedule out = IsTrapText found input a schedule out
IsTrapAnswer ScheduleAlone found head input a schedule out = out ≡ schedule_alone schedule
IsTrapAnswer Json found head input a schedule out = IsRunObject head input a schedule None out

abbrev pub IsBrokenAnswer : Output → List ℕ → Members → List ℕ → WholeProgram Name → List ℕ → TextPlace → Valued → List ℕ → Type 0
IsBrokenAnswer Text found head input a schedule place v out = IsBrokenText found input a schedule place v out
IsBrokenAnswer ScheduleAlone found head input a schedule place v out = out ≡ schedule_alone schedule
IsBrokenAnswer Json found head input a schedule place v out = IsBreakObject head input a schedule place v out

abbrev pub ShowsTrap : List ℕ → Members → Sought → List ℕ → Response → Type 0
ShowsTrap found head s schedule = Gives 5 (IsTrapAnswer s.output found head s.input s.program schedule)

-- of the lines that must never hold the one of this number breaks
pub record ShowsBroken (found : List ℕ) (head : Members) (s : Sought) (schedule : List ℕ) (line : ℕ) (v : Valued) (response : Response) : Type 0 where
  pub place : TextPlace
  pub there : slice_get s.places line ≡ Some place
  pub shown : Gives 5 (IsBrokenAnswer s.output found head s.input s.program schedule place v) response

-- What `explore` finds it says in a line, in both forms.

abbrev pub SaysTrap : List ℕ → Sought → List ℕ → Response → Type 0
SaysTrap line = ShowsTrap line (says_members line)

abbrev pub SaysBroken : List ℕ → Sought → List ℕ → ℕ → Valued → Response → Type 0
SaysBroken line = ShowsBroken line (says_members line)

-- Without a schedule a text says something in a line, with more behind it; an object has so many states in place of that,
-- and so many lines that must never hold.
abbrev pub IsStatesAnswer : Output → List ℕ → List ℕ → Bool → ℕ → ℕ → List ℕ → List ℕ → Type 0
IsStatesAnswer Text answer says is_merged states lines more out = out ≡ says ++ line_end ++ more
IsStatesAnswer ScheduleAlone answer says is_merged states lines more out = out ≡ []
IsStatesAnswer Json answer says is_merged states lines more out = out ≡ J.lines (states_data answer says is_merged states lines ∷ [])

-- no process traps, and none of the lines breaks
abbrev pub ShowsSafe : Sought → Bool → ℕ → Response → Type 0
ShowsSafe s is_merged states =
    Gives 0 (IsStatesAnswer s.output (codes "safe") (safe_line is_merged (length s.places) states) is_merged states (length s.places) [])

abbrev pub ShowsLimit : Sought → Bool → Limits → ℕ → Response → Type 0
ShowsLimit s is_merged limits states =
    Gives 6 (IsStatesAnswer s.output (codes "limit") (limit_line is_merged states) is_merged states (length s.places)
    (next_line is_merged limits states))

-- a fault: of a trap, and of a line that breaks, these lines say how it was found, and an object these members
abbrev pub ShowsFault : List ℕ → List ℕ → Members → Sought → Fault → Response → Type 0
ShowsFault trap breaks head s (Trapped schedule) response = ShowsTrap trap head s schedule.items response
ShowsFault trap breaks head s (Broken schedule line v) response = ShowsBroken breaks head s schedule.items line v response

abbrev pub SaysFault : List ℕ → List ℕ → Sought → Fault → Response → Type 0
SaysFault trap breaks s (Trapped schedule) response = SaysTrap trap s schedule.items response
SaysFault trap breaks s (Broken schedule line v) response = SaysBroken breaks s schedule.items line v response

-- by steps of one kind, within these limits
abbrev pub Shows : Bool → Sought → Limits → Verdict Fault (Unit {0}) → Response → Type 0
Shows is_merged s limits (Found states fault) response = SaysFault (line_by is_merged) (break_line_by is_merged) s fault response
Shows is_merged s limits (Nowhere states known) response = ShowsSafe s is_merged states response
Shows is_merged s limits (Limit states) response = ShowsLimit s is_merged limits states response

-- What a hunt finds an object says with the plan, and with the run from which on it was tried.

abbrev pub ShowsHuntTrap : Plan → ℕ → Sought → List ℕ → Response → Type 0
ShowsHuntTrap plan from = ShowsTrap minimal_line (plan_members plan from)

abbrev pub ShowsHuntBroken : Plan → ℕ → Sought → List ℕ → ℕ → Valued → Response → Type 0
ShowsHuntBroken plan from = ShowsBroken minimal_break_line (plan_members plan from)

-- no process traps, and none of so many lines breaks, in the runs of this plan from this one on; and whether a line `#! ends`
-- of the file isn't asked
abbrev pub IsEmptyAnswer : Output → ℕ → Plan → ℕ → Bool → List ℕ → Type 0
IsEmptyAnswer Text lines plan from ends_unasked out = out ≡ nothing_line lines plan from ends_unasked
IsEmptyAnswer ScheduleAlone lines plan from ends_unasked out = out ≡ []
IsEmptyAnswer Json lines plan from ends_unasked out = out ≡ J.lines (empty_hunt_data plan from lines ends_unasked ∷ [])

abbrev pub ShowsEmptyHunt : Output → ℕ → Plan → ℕ → Bool → Response → Type 0
ShowsEmptyHunt output lines plan from ends_unasked = Gives 0 (IsEmptyAnswer output lines plan from ends_unasked)

abbrev pub ShowsHunt : Sought → Plan → ℕ → Bool → Option (ℕ × Fault) → Response → Type 0
ShowsHunt s plan from ends_unasked (Some f) response = ShowsFault minimal_line minimal_break_line (plan_members plan from) s f.1 response
ShowsHunt s plan from ends_unasked None response = ShowsEmptyHunt s.output (length s.places) plan from ends_unasked response

-- Where nothing is wrong, ends are told: of steps that repeat for ever, and the schedule that leads there.
abbrev pub IsLoopAnswer : Output → List ℕ → List ℕ → List ℕ → WholeProgram Name → List ℕ → List ℕ → List ℕ → List ℕ → Type 0
IsLoopAnswer Text answer found input a schedule lead_in cycle out = IsLoopText found input a schedule lead_in cycle out
IsLoopAnswer ScheduleAlone answer found input a schedule lead_in cycle out = out ≡ schedule_alone schedule
IsLoopAnswer Json answer found input a schedule lead_in cycle out = IsLoopObject answer found input a schedule lead_in cycle out

abbrev pub ShowsLoop : List ℕ → List ℕ → Sought → List ℕ → List ℕ → List ℕ → Response → Type 0
ShowsLoop answer found s schedule lead_in cycle = Gives 7 (IsLoopAnswer s.output answer found s.input s.program schedule lead_in cycle)

abbrev pub ShowsStuck : Sought → Bool → MustStop → List ℕ → List ℕ → List ℕ → Response → Type 0
ShowsStuck s is_merged asked = ShowsLoop (codes "stuck") (stuck_line is_merged (length s.places) asked) s

abbrev pub ShowsEndless : Sought → MustStop → List ℕ → List ℕ → Response → Type 0
ShowsEndless s asked prefix cycle = ShowsLoop (codes "endless") (endless_line (length s.places) asked) s prefix [] cycle

abbrev pub ShowsNotWaitFree : Sought → Conditions → ℕ → List ℕ → List ℕ → Response → Type 0
ShowsNotWaitFree s asked p prefix cycle = ShowsLoop (codes "not_wait_free") (not_wait_free_line (length s.places) asked p) s prefix [] cycle

abbrev pub ShowsNotAlone : Sought → Conditions → ℕ → List ℕ → List ℕ → Response → Type 0
ShowsNotAlone s asked p prefix cycle = ShowsLoop (codes "not_alone") (not_alone_line (length s.places) asked p) s prefix [] cycle

abbrev pub ShowsAllEnd : Sought → Bool → Conditions → ℕ → Response → Type 0
ShowsAllEnd s is_merged asked states =
    Gives 0 (IsStatesAnswer s.output (codes "ends") (ends_line is_merged (length s.places) asked states) is_merged states (length s.places) [])

-- where they end under fair schedules, and this is known of own steps: of wait-free processes, and of those that step alone
abbrev pub ShowsOwn : Bool → Conditions → Sought → ℕ → OwnSteps → OwnSteps → Response → Type 0
ShowsOwn is_merged asked s states (O.ForEver p prefix cycle) alone response = ShowsNotWaitFree s asked p prefix.items cycle.items response
ShowsOwn is_merged asked s states O.Stop (O.ForEver p prefix cycle) response = ShowsNotAlone s asked p prefix.items cycle.items response
ShowsOwn is_merged asked s states O.Stop O.Stop response = ShowsAllEnd s is_merged asked states response

abbrev pub ShowsKnownBy : Bool → Conditions → Sought → ℕ → Liveness → OwnSteps → OwnSteps → Response → Type 0
ShowsKnownBy is_merged asked s states (L.Stuck schedule lead_in cycle) wait_free alone response =
    ShowsStuck s is_merged asked.fair schedule.items lead_in.items cycle.items response
ShowsKnownBy is_merged asked s states (L.Endless prefix cycle) wait_free alone response = ShowsEndless s asked.fair prefix.items cycle.items response
ShowsKnownBy is_merged asked s states L.Ends wait_free alone response = ShowsOwn is_merged asked s states wait_free alone response

-- where nothing is wrong in so many states
abbrev pub ShowsKnown : Bool → Conditions → Sought → ℕ → Known → Response → Type 0
ShowsKnown is_merged asked s states known response = ShowsKnownBy is_merged asked s states known.fair known.wait_free known.alone response

abbrev pub ShowsEnds : Bool → Conditions → Sought → Limits → Verdict Fault Known → Response → Type 0
ShowsEnds is_merged asked s limits (Found states fault) response = SaysFault (line_by is_merged) (break_line_by is_merged) s fault response
ShowsEnds is_merged asked s limits (Nowhere states known) response = ShowsKnown is_merged asked s states known response
ShowsEnds is_merged asked s limits (Limit states) response = ShowsLimit s is_merged limits states response
