-- What is found of a program under every schedule, what is shown of it, and what a watch hears on the way.
use Rattle.std.specs.Prelude.{◌≡◌, ◌≤◌, ◌+◌, ◌++◌, ◌∷◌, ℕ, Bool, true, false, List}
use Rattle.base.specs.Plain.{WholeProgram}
use Rattle.language_properties.specs.Properties.{Formula}
use Rattle.language_properties.specs.Values.{Valued}
use Rattle.tick_kinds.specs.Resolution.{resolved}
use Rattle.searches_states.specs.declared.limits.Limits.{Limits}
use Rattle.searches_explore.specs.Searching.{AreBytesFor, IsFullFor}
use Rattle.searches_hunt.specs.Never.{IsMinimalBroken, IsMinimalTrapped}
use Rattle.ticklab_line.specs.declared.commands.Steps.{Steps}
use Rattle.ticklab_line.specs.declared.commands.Steps.TheVariants.{MergedFirst, Single, Merged}
use Rattle.ticklab_verdicts.specs.BySteps.{BrokenBy, FoundBy, LimitBy, SafeBy, TrapBy, break_line_by, line_by}
use Rattle.ticklab_verdicts.specs.Hearing.{Heard, IsSearchHeard, IsSearchHeardToEnd, fault_found}
use Rattle.ticklab_verdicts.specs.Lines.{minimal_break_line_by, minimal_line_by}
use Rattle.ticklab_verdicts.specs.Shorter.{is_bounded, limits_within}
use Rattle.ticklab_verdicts.specs.Shown.{SaysBroken, SaysTrap, ShowsLimit, ShowsSafe}
use Rattle.ticklab_verdicts.specs.Sought.{Sought}
use Rattle.ticklab_files.specs.declared.response.Response.{Response}

-- By steps of this kind nothing is wrong under any schedule, there are so many states, and all of them are gone.
pub record IsQuiet (is_merged : Bool) (a : WholeProgram ℕ) (lines : List Formula) (limits : Limits) (states : ℕ) (heard : List Heard) : Type 0 where
  pub safe : SafeBy is_merged a lines limits states
  pub on_the_way : IsSearchHeardToEnd is_merged a lines (AreBytesFor a states states) states states states heard

-- A limit is met, and there are more states than these.
pub record MeetsLimit (is_merged : Bool) (a : WholeProgram ℕ) (lines : List Formula) (limits : Limits) (states : ℕ) (heard : List Heard) : Type 0 where
  pub more : LimitBy is_merged a lines limits states
  pub gone : ℕ
  pub on_the_way : IsSearchHeardToEnd is_merged a lines (IsFullFor a limits states gone) (gone + 1) states gone heard

-- This schedule was found when no more states than the limit were seen.
pub record IsFoundWithin (is_merged : Bool) (a : WholeProgram ℕ) (lines : List Formula) (limits : Limits) (schedule : List ℕ) (heard : List Heard) : Type 0 where
  pub states : ℕ
  pub seen : FoundBy is_merged a lines states schedule
  pub few : states ≤ limits.states
  pub gone : ℕ
  pub on_the_way : IsSearchHeard is_merged a lines gone heard

-- after this schedule a line breaks, or a process traps under it
abbrev pub IsFaultOf : Bool → WholeProgram ℕ → List Formula → List ℕ → Type 0
IsFaultOf true a lines schedule = (line : ℕ) × ((v : Valued) × BrokenBy true a lines schedule line v)
IsFaultOf false a lines schedule = TrapBy true a lines schedule

-- As far as these limits let a search go.
module _ (s : Sought) (limits : Limits) where
  pub record TellsSafe (is_merged : Bool) (response : Response) (heard : List Heard) : Type 0 where
    pub states : ℕ
    pub quiet : IsQuiet is_merged (resolved s.program) s.lines limits states heard
    pub shown : ShowsSafe s is_merged states response

  pub record TellsLimit (is_merged : Bool) (response : Response) (heard : List Heard) : Type 0 where
    pub states : ℕ
    pub meets : MeetsLimit is_merged (resolved s.program) s.lines limits states heard
    pub shown : ShowsLimit s is_merged limits states response

  -- A process traps or a line breaks under a schedule; by single steps it is a shortest.
  pub data TellsFault (is_merged : Bool) (response : Response) (heard : List Heard) : Type 0 where
    trapped : (schedule : List ℕ) → TrapBy is_merged (resolved s.program) s.lines schedule
        → IsFoundWithin is_merged (resolved s.program) s.lines limits schedule heard
        → SaysTrap (line_by is_merged) s schedule response → TellsFault is_merged response heard
    broken : (schedule : List ℕ) (line : ℕ) (v : Valued) → BrokenBy is_merged (resolved s.program) s.lines schedule line v
        → IsFoundWithin is_merged (resolved s.program) s.lines limits schedule heard
        → SaysBroken (break_line_by is_merged) s schedule line v response → TellsFault is_merged response heard

  -- By steps of one kind alone.
  pub data IsFoundBy (is_merged : Bool) (response : Response) (heard : List Heard) : Type 0 where
    safe : TellsSafe is_merged response heard → IsFoundBy is_merged response heard
    unknown : TellsLimit is_merged response heard → IsFoundBy is_merged response heard
    fault : TellsFault is_merged response heard → IsFoundBy is_merged response heard

-- What is told where merged steps find a fault first.
module _ (s : Sought) (limits : Limits) where
  -- Merged steps have seen so many states. What is told is a shortest schedule, by single steps; where these meet a limit or
  -- their bound, a schedule that needs all its steps.
  pub data TellsShorter (merged : ℕ) (response : Response) (heard : List Heard) : Type 0 where
    shortest : TellsFault s (limits_within limits merged) false response heard → TellsShorter merged response heard
    minimal_trap : (states : ℕ) → MeetsLimit false (resolved s.program) s.lines (limits_within limits merged) states heard
        → (schedule : List ℕ) → IsMinimalTrapped (resolved s.program) s.lines schedule
        → SaysTrap (minimal_line_by (is_bounded limits merged states)) s schedule response → TellsShorter merged response heard
    minimal_break : (states : ℕ) → MeetsLimit false (resolved s.program) s.lines (limits_within limits merged) states heard
        → (schedule : List ℕ) (line : ℕ) (v : Valued) → IsMinimalBroken (resolved s.program) s.lines schedule line v
        → SaysBroken (minimal_break_line_by (is_bounded limits merged states)) s schedule line v response → TellsShorter merged response heard

  -- The watch hears which fault it is before.
  pub record TellsOn (is_break : Bool) (merged : ℕ) (response : Response) (heard : List Heard) : Type 0 where
    pub more : List Heard
    pub single : TellsShorter merged response more
    pub whole : heard ≡ fault_found is_break ∷ more

  -- By merged steps, which find a fault, and then by single ones.
  pub record TellsBoth (response : Response) (heard : List Heard) : Type 0 where
    pub is_break : Bool
    pub schedule : List ℕ
    pub fault : IsFaultOf is_break (resolved s.program) s.lines schedule
    pub first : List Heard
    pub merged : IsFoundWithin true (resolved s.program) s.lines limits schedule first
    pub more : List Heard
    pub single : TellsOn is_break merged.states response more
    pub whole : heard ≡ first ++ more

  -- By merged steps first, and by single ones where these find a fault.
  pub data IsFoundFirst (response : Response) (heard : List Heard) : Type 0 where
    first_safe : TellsSafe s limits true response heard → IsFoundFirst response heard
    first_unknown : TellsLimit s limits true response heard → IsFoundFirst response heard
    first_fault : TellsBoth response heard → IsFoundFirst response heard

  abbrev pub IsFound : Steps → Response → List Heard → Type 0
  IsFound MergedFirst = IsFoundFirst
  IsFound Single = IsFoundBy s limits false
  IsFound Merged = IsFoundBy s limits true
