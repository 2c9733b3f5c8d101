-- What the answer of a hunt with lines that must never hold says of the program's runs on whole-number tickets.
use Rattle.std.specs.Prelude.{◌≡◌, ◌+◌, ◌<◌, ◌≤◌, ℕ, true, List, Option, MatchOption, length, take}
use Rattle.std.specs.List.{All}
use Rattle.base.specs.Plain.{WholeProgram}
use Rattle.language_properties.specs.Properties.{Formula}
use Rattle.language_properties.specs.Values.{Valued}
use Rattle.tick_source.specs.Source.{source}
use Rattle.searches_explore.specs.Explored.{has_trapped}
use Rattle.searches_explore.specs.Lines.{is_fault}
use Rattle.searches_explore.specs.Never.{IsBroken}
pub use Rattle.searches_explore.specs.Needed.{IsFaultless, NeedsAll}
use Rattle.searches_hunt.specs.declared.plan.Plan.{Plan}
use Rattle.searches_hunt.specs.Draws.{random_schedule}

-- The runs of a plan from this one on: as many as it has, or up to the last, the one before 4294967295.
pub record IsRunFrom (plan : Plan) (from run : ℕ) : Type 0 where
  pub begun : from ≤ run
  pub within : run < from + plan.runs
  pub there_is : run < 4294967295

-- Of a program and these lines.
module _ (a : WholeProgram ℕ) (lines : List Formula) where
  -- Under this schedule a process traps, and it needs all its steps.
  pub record IsMinimalTrapped (schedule : List ℕ) : Type 0 where
    pub lawful : All (λ p. p < a.processes) schedule
    pub traps : has_trapped (source a schedule) ≡ true
    pub needed : NeedsAll a lines schedule

  -- After this schedule no process has trapped, and this line, which has this value, is the first that is broken. It
  -- needs all its steps.
  pub record IsMinimalBroken (schedule : List ℕ) (line : ℕ) (v : Valued) : Type 0 where
    pub broken : IsBroken a lines schedule line v
    pub needed : NeedsAll a lines schedule

  -- At the start or after a step of this schedule a process has trapped or a line is broken.
  pub record HasFault (schedule : List ℕ) : Type 0 where
    pub steps : ℕ
    pub within : steps ≤ length schedule
    pub fault : is_fault lines (source a (take steps schedule)) ≡ true

  -- The schedule of this run has one, and that of no run before it.
  pub record IsFirstFault (plan : Plan) (from run : ℕ) : Type 0 where
    pub is_run : IsRunFrom plan from run
    pub found : HasFault (random_schedule plan a.processes run)
    pub earlier : (other : ℕ) → from ≤ other → other < run → IsFaultless a lines (random_schedule plan a.processes other)

  -- the schedule of none of the runs has one
  abbrev pub NoRunFaults : Plan → ℕ → Type 0
  NoRunFaults plan from = (run : ℕ) → IsRunFrom plan from run → IsFaultless a lines (random_schedule plan a.processes run)

  -- what is told of the runs: that none has one, or the first that has
  abbrev pub TellsFirst : Plan → ℕ → Option ℕ → Type 0
  TellsFirst plan from told = MatchOption told (NoRunFaults plan from) (IsFirstFault plan from)
