-- What `lasso` answers: whether a cycle after a prefix, both schedules of a program, can be gone round for ever.
use Rattle.std.specs.Prelude.{◌≡◌, ◌<◌, ◌⊎◌, ◌||◌, ◌++◌, ℕ, List, [], Option, Some, None, Ok}
use Rattle.base.specs.Plain.{Name, WholeProgram}
use Rattle.tick_kinds.specs.Resolution.{resolved}
use Rattle.tick_source.specs.Source.{source}
use Rattle.language_schedules.specs.Schedule.{schedule_of}
use Rattle.searches_states.specs.declared.must_stop.MustStop.{MustStop}
use Rattle.searches_fairness.specs.Running.{running_of}
use Rattle.searches_fairness.specs.declared.lasso.LassoAnswer.{LassoAnswer}
use Rattle.searches_fairness.specs.declared.lasso.LassoAnswer.TheVariants as L
use Rattle.searches_explore.specs.Ending.{GoesOn, IsEndlessBy}
use Rattle.searches_explore.specs.Explored.{has_stopped}
use Rattle.searches_explore.specs.LassoExplored.{AllStoppedAfter, IsLeftOutOf, IsOpenAfter}
use Rattle.searches_explore.specs.Statements.{statements}
use Rattle.ticketc_refusals.specs.Refusals.{IsScheduleRefused}
use Rattle.ticklab_explain.specs.Reports.{TellsFor}
use Rattle.ticklab_files.specs.Asking.{IsFileRefused, IsProgramFile}
use Rattle.ticklab_verdicts.specs.Ends.{asked_by}
use Rattle.ticklab_files.specs.Faults.{IsEither}
use Rattle.ticklab_verdicts.specs.Lines.{left_out_line, long_line, loop_line, open_line, stopped_line}
use Rattle.ticklab_verdicts.specs.Loops.{IsLoopText}
use Rattle.ticklab_files.specs.Reading.{AfterTexts, IsRead, IsSchedule, ReadsOf, ReadsInputOf, is_input, reads_input, schedule_file}
use Rattle.ticklab_files.specs.Responses.{Gives, Refuses}
use Rattle.ticklab_files.specs.Ways.{AreMisspelled, AreSpelled, Texts}
use Rattle.ticklab_files.specs.declared.response.Response.{Response}

-- What is shown of the answer, where there is one. A loop is an endless run, which is told as that of `explore`; that
-- there is none is an answer too, with the status of what is refused.
abbrev pub ShowsLasso : List ℕ → WholeProgram Name → List ℕ → List ℕ → Option LassoAnswer → Response → Type 0
ShowsLasso input a prefix cycle (Some (L.Lasso running)) response =
    Gives 7 (IsLoopText (loop_line running.items) input a prefix [] cycle) response
ShowsLasso input a prefix cycle (Some L.AllStopped) response = Gives 1 (λ out. out ≡ stopped_line) response
ShowsLasso input a prefix cycle (Some (L.LeftOut p)) response = Gives 1 (λ out. out ≡ left_out_line p) response
ShowsLasso input a prefix cycle (Some L.Open) response = Gives 1 (λ out. out ≡ open_line) response
ShowsLasso input a prefix cycle None response = Gives 6 (λ out. out ≡ long_line) response

-- What is found of the program that an input is, where these processes are asked for: a loop, round which all these run
-- for ever; or the first reason why there is none.
pub data IsLassoFound (input : List ℕ) (a : WholeProgram Name) (asked : MustStop) (prefix cycle : List ℕ) (response : Response) : Type 0 where
  loop : (running : List ℕ) → running ≡ running_of has_stopped (resolved a).processes (source (resolved a) prefix)
      → IsEndlessBy (resolved a) asked prefix cycle → GoesOn (resolved a) asked prefix cycle
      → Gives 7 (IsLoopText (loop_line running) input a prefix [] cycle) response → IsLassoFound input a asked prefix cycle response
  all_stopped : AllStoppedAfter (resolved a) asked prefix → Gives 1 (λ out. out ≡ stopped_line) response
      → IsLassoFound input a asked prefix cycle response
  left_out : (p : ℕ) → IsLeftOutOf (resolved a) prefix cycle p → Gives 1 (λ out. out ≡ left_out_line p) response
      → IsLassoFound input a asked prefix cycle response
  leads_on : IsOpenAfter (resolved a) asked prefix cycle → Gives 1 (λ out. out ≡ open_line) response
      → IsLassoFound input a asked prefix cycle response
  too_long : 268435455 < statements (resolved a).body → Gives 6 (λ out. out ≡ long_line) response
      → IsLassoFound input a asked prefix cycle response

-- This is found of the program that the input is, and the schedules that these texts spell. Those are asked for that
-- the file names, or all.
pub record IsChecked (input first second : List ℕ) (response : Response) : Type 0 where
  pub is : IsProgramFile input
  pub prefix : List ℕ
  pub cycle : List ℕ
  pub prefix_spelled : schedule_of is.program.processes first ≡ Ok prefix
  pub cycle_spelled : schedule_of is.program.processes second ≡ Ok cycle
  pub found : IsLassoFound input is.program (asked_by is.asked.ends.fair None) prefix cycle response

-- The report of what isn't checked: of the file, the prefix or the cycle, in this order.
pub data IsUnchecked (name input first_from first second_from second report : List ℕ) : Type 0 where
  file_refused : IsFileRefused name input report → IsUnchecked name input first_from first second_from second report
  prefix_refused : (is : IsProgramFile input) → TellsFor is.program.processes (IsScheduleRefused is.program.processes first) first_from first report
      → IsUnchecked name input first_from first second_from second report
  cycle_refused : (is : IsProgramFile input) (prefix : List ℕ) → schedule_of is.program.processes first ≡ Ok prefix
      → TellsFor is.program.processes (IsScheduleRefused is.program.processes second) second_from second report
      → IsUnchecked name input first_from first second_from second report

pub data ChecksLasso (name input first_from first second_from second : List ℕ) (response : Response) : Type 0 where
  checked : IsChecked input first second response → ChecksLasso name input first_from first second_from second response
  unchecked : Refuses 1 (IsUnchecked name input first_from first second_from second) response
      → ChecksLasso name input first_from first second_from second response

-- The same of the way that these texts spell: its cycle comes after all its other steps.
pub record IsWayChecked (input : List ℕ) (given : Texts) (response : Response) : Type 0 where
  pub is : IsProgramFile input
  pub schedule : List ℕ
  pub lead_in : List ℕ
  pub cycle : List ℕ
  pub spelled : AreSpelled is.program.processes given schedule lead_in cycle
  pub found : IsLassoFound input is.program (asked_by is.asked.ends.fair None) (schedule ++ lead_in) cycle response

pub data IsWayUnchecked (name input from : List ℕ) (given : Texts) (report : List ℕ) : Type 0 where
  of_file : IsFileRefused name input report → IsWayUnchecked name input from given report
  of_way : (is : IsProgramFile input) → AreMisspelled is.program.processes from given report → IsWayUnchecked name input from given report

pub data ChecksWay (name input from : List ℕ) (given : Texts) (response : Response) : Type 0 where
  way_checked : IsWayChecked input given response → ChecksWay name input from given response
  way_unchecked : Refuses 1 (IsWayUnchecked name input from given) response → ChecksWay name input from given response

abbrev pub LassoesWay : {F : Type 0} → ReadsOf F → ReadsInputOf F → F → F → List ℕ → List ℕ → Response → Type 0
LassoesWay Reads ReadsInput before after file way response =
    AfterTexts Reads ReadsInput before after file way (λ input from given. ChecksWay file input from given response)

-- the file is read, and then the two schedules
abbrev pub LassoesBoth : {F : Type 0} → ReadsOf F → ReadsInputOf F → F → F → List ℕ → List ℕ → List ℕ → Response → Type 0
LassoesBoth {F} Reads ReadsInput before after file prefix cycle response =
    (input : List ℕ) × (opened : F) × IsRead Reads ReadsInput before file input opened
    × (first_from : List ℕ) × (first : List ℕ) × (between : F) × IsSchedule Reads ReadsInput (is_input file) opened between prefix first_from first
    × (second_from : List ℕ) × (second : List ℕ) × IsSchedule Reads ReadsInput (is_input file || reads_input prefix) between after cycle second_from second
    × ChecksLasso file input first_from first second_from second response

-- where there is no cycle, it is in the way that is given for the prefix
abbrev pub Lassoes : {F : Type 0} → ReadsOf F → ReadsInputOf F → F → F → List ℕ → List ℕ → Option (List ℕ) → Response → Type 0
Lassoes Reads ReadsInput before after file prefix None = LassoesWay Reads ReadsInput before after file prefix
Lassoes Reads ReadsInput before after file prefix (Some cycle) = LassoesBoth Reads ReadsInput before after file prefix cycle

-- a file, or one that the prefix or the cycle is in
abbrev pub IsOfThree : List ℕ → List ℕ → Option (List ℕ) → List ℕ → Type 0
IsOfThree file prefix None name = IsEither file prefix name
IsOfThree file prefix (Some cycle) name = IsEither file prefix name ⊎ (schedule_file cycle ≡ Some name)
