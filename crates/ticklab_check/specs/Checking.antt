-- What a file comes to, by its bytes, within these limits.
use Rattle.std.specs.Prelude.{◌≡◌, ◌+◌, ◌||◌, ℕ, Bool, true, false, List, Option, Some, None, Ok, Err, if◌then◌else◌, is_some, length, map, replicate, string_bytes}
use Rattle.base.specs.Plain.{Name, WholeProgram}
use Rattle.language_properties.specs.Properties.{Formula}
use Rattle.language_properties.specs.Values.{Valued}
use Rattle.language_questions.specs.Lines.{Asked, questions_in}
use Rattle.language_questions.specs.declared.fault.QuestionFault.{QuestionFault}
use Rattle.language_questions.specs.declared.questions.Ends.{Ends}
use Rattle.language_questions.specs.declared.questions.EndsLines.{EndsLines}
use Rattle.language_questions.specs.declared.questions.Ends.TheVariants as N
use Rattle.language_questions.specs.declared.questions.Expected.{Expected}
use Rattle.language_questions.specs.declared.questions.Expected.TheVariants as X
use Rattle.tick_kinds.specs.Resolution.{resolved}
use Rattle.ticketc_refusals.specs.Refusals.{IsProgramRefused, ProgramIn}
use Rattle.searches_states.specs.declared.limits.Limits.{Limits}
use Rattle.searches_states.specs.declared.must_stop.MustStop.{MustStop}
use Rattle.searches_states.specs.declared.must_stop.MustStop.TheVariants as M
use Rattle.searches_explore.specs.OwnSteps.{EndsAlone, GoesOnOwn, IsAloneEndlessBy, IsOwnEndlessBy, IsWaitFree, NeverEndsAlone}
use Rattle.searches_explore.specs.declared.conditions.Conditions.{Conditions}
use Rattle.searches_explore.specs.Ending.{CanAlwaysEnd, EndsIfFair, GoesOn, IsStuckAfter}
use Rattle.searches_explore.specs.Never.{IsBroken, IsMergedLimit, IsMergedSafe}
use Rattle.searches_explore.specs.Trap.{IsTrap}
use Rattle.ticklab_explain.specs.Questions.{IsQuestionReport}
use Rattle.ticklab_explain.specs.Reports.{Tells}
use Rattle.ticklab_check.specs.declared.checked.Checked.{Checked}
use Rattle.ticklab_check.specs.declared.checked.Checked.TheVariants as C
use Rattle.ticklab_check.specs.declared.found.Found.{Found}
use Rattle.ticklab_check.specs.declared.found.Found.TheVariants as F
use Rattle.ticklab_check.specs.declared.source.Source.{Source}

-- of at most six processes
abbrev pub nobody : MustStop
nobody = M.Each (replicate 6 false)

-- whom a line `#! ends` names, where there is one
abbrev pub named_by : Option Ends → MustStop
named_by None = nobody
named_by (Some N.Nobody) = nobody
named_by (Some N.All) = M.All
named_by (Some (N.Each marks)) = M.Each marks

-- whether it names somebody
abbrev pub names_some : Option Ends → Bool
names_some None = false
names_some (Some N.Nobody) = false
names_some (Some N.All) = true
names_some (Some (N.Each marks)) = true

-- who is asked for, under each condition, if somebody is: those whom the lines `#! ends` of the file name
abbrev pub asked_for : EndsLines → Option Conditions
asked_for lines =
    if names_some lines.fair || names_some lines.wait_free || names_some lines.alone
    then Some (record { fair = named_by lines.fair; wait_free = named_by lines.wait_free; alone = named_by lines.alone }) else None

-- a file without a line `#! expect` is expected to be safe
abbrev pub expected_of : Option Expected → Expected
expected_of None = X.Safe
expected_of (Some expected) = expected

-- 1 for a line that there is
abbrev pub one_if : Option Ends → ℕ
one_if line = if is_some line then 1 else 0

-- how many lines `#! never` and `#! ends` ask this
abbrev pub lines_asked : Asked → ℕ
lines_asked asked = length asked.never + one_if asked.ends.fair + one_if asked.ends.wait_free + one_if asked.ends.alone

-- Of a program, where these lines must never hold. A fault has a schedule; where none is found there is none.
module _ (a : WholeProgram ℕ) (lines : List Formula) (limits : Limits) where
  -- what is found where these processes are asked for
  abbrev pub IsFoundOfAsked : Conditions → Found → Type 0
  IsFoundOfAsked asked (F.Safe states) = ⊥
  IsFoundOfAsked asked (F.Ends states) =
      IsMergedSafe a lines limits states × CanAlwaysEnd a asked.fair × EndsIfFair a asked.fair × IsWaitFree a asked.wait_free × EndsAlone a asked.alone
  IsFoundOfAsked asked F.Trap = (schedule : List ℕ) × IsTrap a schedule
  IsFoundOfAsked asked F.Never = (schedule : List ℕ) × (line : ℕ) × (v : Valued) × IsBroken a lines schedule line v
  IsFoundOfAsked asked (F.Stuck states) = IsMergedSafe a lines limits states × (schedule : List ℕ) × IsStuckAfter a asked.fair schedule
  IsFoundOfAsked asked (F.Endless states) =
      IsMergedSafe a lines limits states × CanAlwaysEnd a asked.fair × (prefix : List ℕ) × (cycle : List ℕ) × GoesOn a asked.fair prefix cycle
  IsFoundOfAsked asked (F.NotWaitFree states) =
      IsMergedSafe a lines limits states × CanAlwaysEnd a asked.fair × EndsIfFair a asked.fair
      × (p : ℕ) × (prefix : List ℕ) × (cycle : List ℕ) × IsOwnEndlessBy a asked.wait_free p prefix cycle × GoesOnOwn a p prefix cycle
  IsFoundOfAsked asked (F.NotAlone states) =
      IsMergedSafe a lines limits states × CanAlwaysEnd a asked.fair × EndsIfFair a asked.fair × IsWaitFree a asked.wait_free
      × (p : ℕ) × (prefix : List ℕ) × (cycle : List ℕ) × IsAloneEndlessBy a asked.alone p prefix cycle × NeverEndsAlone a p prefix
  IsFoundOfAsked asked (F.Limit states) = IsMergedLimit a lines limits states

  -- what is found where nobody is asked for
  abbrev pub IsFoundOfAll : Found → Type 0
  IsFoundOfAll (F.Safe states) = IsMergedSafe a lines limits states
  IsFoundOfAll F.Trap = (schedule : List ℕ) × IsTrap a schedule
  IsFoundOfAll F.Never = (schedule : List ℕ) × (line : ℕ) × (v : Valued) × IsBroken a lines schedule line v
  IsFoundOfAll (F.Limit states) = IsMergedLimit a lines limits states
  IsFoundOfAll found = ⊥

  abbrev pub IsFound : Option Conditions → Found → Type 0
  IsFound None found = IsFoundOfAll found
  IsFound (Some asked) found = IsFoundOfAsked asked found

-- The input is a program, whose lines ask this; what is found of it, what is expected, and how many lines ask.
pub record IsSearched (limits : Limits) (input : List ℕ) (found : Found) (expected : Expected) (lines : ℕ) : Type 0 where
  pub program : WholeProgram Name
  pub is : ProgramIn input program
  pub asked : Asked
  pub asks : questions_in program input ≡ Ok asked
  pub finds : IsFound (resolved program) (map (λ line. line.0) asked.never) limits (asked_for asked.ends) found
  pub expects : expected ≡ expected_of asked.expected
  pub counts : lines ≡ lines_asked asked

-- The report of an input that is refused: of the program first, then of what its lines ask.
pub data IsRefused (name input report : List ℕ) : Type 0 where
  no_program : Tells (IsProgramRefused input) name input report → IsRefused name input report
  no_question : (a : WholeProgram Name) (fault : QuestionFault) → ProgramIn input a → questions_in a input ≡ Err fault
      → IsQuestionReport name input fault report → IsRefused name input report

-- what the file of this name comes to
abbrev pub ComesTo : Limits → List ℕ → List ℕ → Checked → Type 0
ComesTo limits name input (C.Refused report) = IsRefused name input report.items
ComesTo limits name input (C.Searched found expected lines) = IsSearched limits input found expected lines

abbrev pub SourceComesTo : Limits → Source → Checked → Type 0
SourceComesTo limits source checked = ComesTo limits (string_bytes source.name) source.bytes.items checked
