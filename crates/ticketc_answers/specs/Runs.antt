-- What a run on threads is answered.
use Rattle.std.specs.Prelude.{◌≡◌, ℕ}
use Rattle.base.specs.Observables.{RunObservables}
use Rattle.base.specs.Plain.{Name, WholeProgram}
use Rattle.code_core.specs.Instructions.{StepCode}
use Rattle.threads_source.specs.Shown.{ShowsOutcome}
use Rattle.tick_kinds.specs.Resolution.{resolved}
use Rattle.tick_merge.specs.Runs.{IsWholeRun}
use Rattle.tick_play.specs.Outcome.{outcome_lines}
use Rattle.ticketc_answers.specs.Answer.{Answer, done}
use Rattle.ticketc_answers.specs.Codes.{code_of}
use Rattle.ticketc_answers.specs.Maps.{carried}
use Rattle.ticketc_answers.specs.declared.maps.Way.TheVariants.{Drop}

-- the answer is that of a run of the code, in which each process makes at most `turns` instructions and
-- gives out at most 10,000 values
pub record IsOutcomeOf (turns : ℕ) (c : StepCode) (a : Answer) : Type 0 where
  pub outcome : RunObservables
  pub is_run : IsWholeRun c turns 10000 outcome
  pub told : a ≡ done (outcome_lines outcome)

-- The answer is an outcome of the program on whole-number tickets, under one schedule: that which `drop`
-- makes of the schedule under which its code has the outcome.
pub record IsProgramOutcome (p : WholeProgram Name) (turns : ℕ) (a : Answer) : Type 0 where
  pub outcome : RunObservables
  pub is_run : IsWholeRun (code_of p) turns 10000 outcome
  pub shows : ShowsOutcome (resolved p) (carried Drop (code_of p) is_run.schedule) outcome
  pub told : a ≡ done (outcome_lines outcome)
