-- By single steps or by merged ones: which schedule is shown, and how it is called; how many states were seen when it was
-- found; what holds of the limits and of the number of states that is told where nothing is wrong, and where there are more; and how many states were seen when so
-- many of them were gone. The lines are those that must never hold.
use Rattle.std.specs.Prelude.{ℕ, Bool, true, false, List}
use Rattle.base.specs.Plain.{WholeProgram}
use Rattle.language_properties.specs.Properties.{Formula}
use Rattle.language_properties.specs.Values.{Valued}
use Rattle.searches_states.specs.declared.limits.Limits.{Limits}
use Rattle.searches_states.specs.declared.must_stop.MustStop.{MustStop}
use Rattle.searches_explore.specs.Ending.{IsShortestStuck, IsStuckAfter}
use Rattle.searches_explore.specs.Never.{IsBroken, IsFoundIn, IsMergedFoundIn, IsMergedLimit, IsMergedSafe, IsLimit, IsSafe, IsShortestBroken, IsShortestTrapped, SeesMerged}
use Rattle.searches_explore.specs.Searching.{Sees}
use Rattle.searches_explore.specs.Trap.{IsTrap}
use Rattle.searches_explore.specs.declared.exploring.StepKind.{StepKind}
use Rattle.searches_explore.specs.declared.exploring.StepKind.TheVariants.{Single, Merged}
use Rattle.ticklab_line.specs.declared.commands.Steps.{Steps}
use Rattle.ticklab_line.specs.declared.commands.Steps.TheVariants as steps
use Rattle.ticklab_verdicts.specs.Lines.{shortest_break_line, shortest_line, some_break_line, some_line}

-- whether the first search is by merged steps
abbrev pub begins_merged : Steps → Bool
begins_merged steps.Single = false
begins_merged steps.Merged = true
begins_merged steps.MergedFirst = true

abbrev pub kind_of : Bool → StepKind
kind_of false = Single
kind_of true = Merged

abbrev pub TrapBy : Bool → WholeProgram ℕ → List Formula → List ℕ → Type 0
TrapBy false a lines = IsShortestTrapped a lines
TrapBy true a lines = IsTrap a

abbrev pub BrokenBy : Bool → WholeProgram ℕ → List Formula → List ℕ → ℕ → Valued → Type 0
BrokenBy false = IsShortestBroken
BrokenBy true = IsBroken

-- after it those can't end that have to
abbrev pub StuckBy : Bool → WholeProgram ℕ → MustStop → List ℕ → Type 0
StuckBy false = IsShortestStuck
StuckBy true = IsStuckAfter

abbrev pub line_by : Bool → List ℕ
line_by false = shortest_line
line_by true = some_line

abbrev pub break_line_by : Bool → List ℕ
break_line_by false = shortest_break_line
break_line_by true = some_break_line

-- so many states were seen when this schedule was found
abbrev pub FoundBy : Bool → WholeProgram ℕ → List Formula → ℕ → List ℕ → Type 0
FoundBy false = IsFoundIn
FoundBy true = IsMergedFoundIn

abbrev pub SafeBy : Bool → WholeProgram ℕ → List Formula → Limits → ℕ → Type 0
SafeBy false = IsSafe
SafeBy true = IsMergedSafe

abbrev pub LimitBy : Bool → WholeProgram ℕ → List Formula → Limits → ℕ → Type 0
LimitBy false = IsLimit
LimitBy true = IsMergedLimit

abbrev pub SeesBy : Bool → WholeProgram ℕ → List Formula → ℕ → ℕ → Type 0
SeesBy false a lines = Sees a
SeesBy true a lines = SeesMerged a lines
