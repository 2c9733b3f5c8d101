-- What `explore` answers where it asks who ends, under which condition, and what a watch hears on the way.
use Rattle.std.specs.Prelude.{◌≡◌, ◌≤◌, ◌<◌, ⊤, ℕ, Bool, true, false, List, [], Option, Some, None, replicate, slice_set}
use Rattle.language_questions.specs.declared.questions.Condition.{Condition}
use Rattle.language_questions.specs.declared.questions.Condition.TheVariants as C
use Rattle.language_questions.specs.declared.questions.Ends.{Ends}
use Rattle.language_questions.specs.declared.questions.Ends.TheVariants as N
use Rattle.language_questions.specs.declared.questions.EndsLines.{EndsLines}
use Rattle.tick_kinds.specs.Resolution.{resolved}
use Rattle.searches_states.specs.declared.limits.Limits.{Limits}
use Rattle.searches_states.specs.declared.must_stop.MustStop.{MustStop}
use Rattle.searches_states.specs.declared.must_stop.MustStop.TheVariants.{All, Each}
use Rattle.searches_explore.specs.Ending.{CanAlwaysEnd, EndsIfFair, GoesOn, IsEndlessBy, IsLoopAfter}
use Rattle.searches_explore.specs.OwnSteps.{EndsAlone, GoesOnOwn, IsAloneEndlessBy, IsOwnEndlessBy, IsWaitFree, NeverEndsAlone}
use Rattle.searches_explore.specs.declared.conditions.Conditions.{Conditions}
use Rattle.ticklab_check.specs.Checking.{nobody}
use Rattle.ticklab_line.specs.declared.commands.Steps.{Steps}
use Rattle.ticklab_line.specs.declared.commands.Steps.TheVariants.{MergedFirst, Single, Merged}
use Rattle.ticklab_files.specs.Asking.{AsksNever, IsFileRefused, IsProgramFile, TellsOption, lines_in}
use Rattle.ticklab_verdicts.specs.BySteps.{StuckBy}
use Rattle.ticklab_verdicts.specs.Found.{IsQuiet, TellsBoth, TellsFault, TellsLimit}
use Rattle.ticklab_verdicts.specs.Hearing.{Heard, HearsOf, IsHeard}
use Rattle.ticklab_verdicts.specs.Lines.{no_process_line}
use Rattle.ticklab_files.specs.Reading.{AfterFile, ReadsOf, ReadsInputOf}
use Rattle.ticklab_files.specs.Responses.{Refuses}
use Rattle.ticklab_verdicts.specs.Shown.{ShowsAllEnd, ShowsEndless, ShowsNotAlone, ShowsNotWaitFree, ShowsStuck}
use Rattle.ticklab_verdicts.specs.Sought.{Sought, sought_of}
use Rattle.ticklab_line.specs.declared.asking.Output.{Output}
use Rattle.ticklab_files.specs.declared.response.Response.{Response}

-- Who is asked for: the process that a command line names; where it names none, those that this line `#! ends` of the file
-- names; all, where there is no such line.
abbrev pub asked_by : Option Ends → Option ℕ → MustStop
asked_by ends (Some p) = Each (slice_set (replicate 6 false) p true)
asked_by (Some (N.Each marks)) None = Each marks
asked_by (Some N.Nobody) None = Each (replicate 6 false)
asked_by (Some N.All) None = All
asked_by None None = All

-- the line of this condition
abbrev pub line_of : Condition → EndsLines → Option Ends
line_of C.Fair lines = lines.fair
line_of C.WaitFree lines = lines.wait_free
line_of C.Alone lines = lines.alone

-- these, under this condition alone
abbrev pub under : Condition → MustStop → Conditions
under C.Fair asked = record { fair = asked; wait_free = nobody; alone = nobody }
under C.WaitFree asked = record { fair = nobody; wait_free = asked; alone = nobody }
under C.Alone asked = record { fair = nobody; wait_free = nobody; alone = asked }

-- who is asked for by a command line that names this condition
abbrev pub asked_under : Condition → EndsLines → Option ℕ → Conditions
asked_under condition lines process = under condition (asked_by (line_of condition lines) process)

-- of n processes there is the one that is named
abbrev pub IsThere : ℕ → Option ℕ → Type 0
IsThere n None = ⊤
IsThere n (Some p) = p < n

-- of n processes there isn't the one that is named, and this is told of it
abbrev pub IsPast : ℕ → Option ℕ → List ℕ → Type 0
IsPast n None report = ⊥
IsPast n (Some p) report = (n ≤ p) × (report ≡ no_process_line p)

-- The report of an input that isn't explored: of its file first, then of the process, then of these texts of a command
-- line.
pub data IsEndsRefused (name : List ℕ) (texts : List (List ℕ)) (process : Option ℕ) (input report : List ℕ) : Type 0 where
  no_file : IsFileRefused name input report → IsEndsRefused name texts process input report
  no_process : (is : IsProgramFile input) → IsPast (resolved is.program).processes process report → IsEndsRefused name texts process input report
  no_option : (is : IsProgramFile input) → IsThere (resolved is.program).processes process
      → TellsOption is.program (lines_in is.asked) texts report → IsEndsRefused name texts process input report

-- Where these processes are asked for, as far as these limits let a search go.
module _ (s : Sought) (limits : Limits) (asked : Conditions) where
  -- Nothing is wrong under any schedule, and this is found of ends. The fair condition is told first, and then that of wait-free
  -- processes.
  pub data TellsEnds (is_merged : Bool) (response : Response) (heard : List Heard) : Type 0 where
    stuck : (schedule lead_in cycle : List ℕ) (states : ℕ) → StuckBy is_merged (resolved s.program) asked.fair schedule
        → IsLoopAfter (resolved s.program) schedule lead_in cycle → IsQuiet is_merged (resolved s.program) s.lines limits states heard
        → ShowsStuck s is_merged asked.fair schedule lead_in cycle response → TellsEnds is_merged response heard
    endless : (prefix cycle : List ℕ) (states : ℕ) → CanAlwaysEnd (resolved s.program) asked.fair → IsEndlessBy (resolved s.program) asked.fair prefix cycle
        → GoesOn (resolved s.program) asked.fair prefix cycle → IsQuiet is_merged (resolved s.program) s.lines limits states heard
        → ShowsEndless s asked.fair prefix cycle response → TellsEnds is_merged response heard
    not_wait_free : (p : ℕ) (prefix cycle : List ℕ) (states : ℕ) → CanAlwaysEnd (resolved s.program) asked.fair → EndsIfFair (resolved s.program) asked.fair
        → IsOwnEndlessBy (resolved s.program) asked.wait_free p prefix cycle → GoesOnOwn (resolved s.program) p prefix cycle
        → IsQuiet is_merged (resolved s.program) s.lines limits states heard → ShowsNotWaitFree s asked p prefix cycle response
        → TellsEnds is_merged response heard
    not_alone : (p : ℕ) (prefix cycle : List ℕ) (states : ℕ) → CanAlwaysEnd (resolved s.program) asked.fair → EndsIfFair (resolved s.program) asked.fair
        → IsWaitFree (resolved s.program) asked.wait_free → IsAloneEndlessBy (resolved s.program) asked.alone p prefix cycle
        → NeverEndsAlone (resolved s.program) p prefix → IsQuiet is_merged (resolved s.program) s.lines limits states heard
        → ShowsNotAlone s asked p prefix cycle response → TellsEnds is_merged response heard
    ends : (states : ℕ) → CanAlwaysEnd (resolved s.program) asked.fair → EndsIfFair (resolved s.program) asked.fair
        → IsWaitFree (resolved s.program) asked.wait_free → EndsAlone (resolved s.program) asked.alone
        → IsQuiet is_merged (resolved s.program) s.lines limits states heard → ShowsAllEnd s is_merged asked states response
        → TellsEnds is_merged response heard

  -- By steps of one kind alone. A trap or a line that breaks is told first.
  pub data IsEndsFoundBy (is_merged : Bool) (response : Response) (heard : List Heard) : Type 0 where
    ends_unknown : TellsLimit s limits is_merged response heard → IsEndsFoundBy is_merged response heard
    ends_fault : TellsFault s limits is_merged response heard → IsEndsFoundBy is_merged response heard
    no_fault : TellsEnds is_merged response heard → IsEndsFoundBy is_merged response heard

  -- By merged steps first, and by single ones where these find a fault.
  pub data IsEndsFoundFirst (response : Response) (heard : List Heard) : Type 0 where
    first_unknown : TellsLimit s limits true response heard → IsEndsFoundFirst response heard
    first_fault : TellsBoth s limits response heard → IsEndsFoundFirst response heard
    first_quiet : TellsEnds true response heard → IsEndsFoundFirst response heard

  abbrev pub IsEndsFound : Steps → Response → List Heard → Type 0
  IsEndsFound MergedFirst = IsEndsFoundFirst
  IsEndsFound Single = IsEndsFoundBy false
  IsEndsFound Merged = IsEndsFoundBy true

-- The answer of `explore --ends` on an input, under this condition, with these texts of a command line for what must never
-- hold, and what a watch hears on the way: nothing of an input that is refused.
pub data IsEndsExplored (steps : Steps) (name : List ℕ) (texts : List (List ℕ)) (process : Option ℕ) (condition : Condition) (limits : Limits)
    (output : Output) (input : List ℕ) (response : Response) (heard : List Heard) : Type 0 where
  explored : (asks : AsksNever texts input) → IsThere (resolved asks.file.program).processes process
      → IsEndsFound (sought_of name texts output input asks) limits (asked_under condition asks.file.asked.ends process) steps response heard
      → IsEndsExplored steps name texts process condition limits output input response heard
  unexplored : Refuses 1 (IsEndsRefused name texts process input) response → heard ≡ [] → IsEndsExplored steps name texts process condition limits output input response heard

-- the file is read, and the watch hears of the searches
abbrev pub ExploresEnds : {F W : Type 0} → ReadsOf F → ReadsInputOf F → HearsOf W → F → F → W → W → List ℕ → List (List ℕ) → Option ℕ → Condition → Limits → Steps → Output → Response → Type 0
ExploresEnds Reads ReadsInput hears before after quiet heard file never process condition limits steps output response =
    AfterFile Reads ReadsInput before after file (λ input. IsHeard hears quiet heard (IsEndsExplored steps file never process condition limits output input response))
