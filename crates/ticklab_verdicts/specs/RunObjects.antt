-- What `explore` and `hunt` answer as JSON where they show a schedule.
use Rattle.std.specs.Prelude.{◌≡◌, ℕ, false, List, [], ◌∷◌, Option, Some, None, length, min}
use Rattle.base.specs.Plain.{Name, WholeProgram}
use Rattle.tick_syntax.specs.Spelling.{Spells}
use Rattle.tick_syntax.specs.declared.token.Token.{Token}
use Rattle.tick_kinds.specs.Resolution.{resolved}
use Rattle.language_properties.specs.Values.{Valued}
use Rattle.serde_json.specs.Data.{Members}
use Rattle.ticklab_explain.specs.Places.{IsPlace}
use Rattle.ticklab_explain.specs.declared.place.Place.{Place}
use Rattle.ticklab_json.specs.Found.{run_data}
use Rattle.ticklab_json.specs.Members.{lines}
use Rattle.ticklab_json.specs.Steps.{BrokenLine, statement_list}
use Rattle.ticklab_trace.specs.declared.steps.StatementStep.{StatementStep}
use Rattle.ticklab_trace.specs.StatementSteps.{AreStatementSteps}
use Rattle.ticklab_trace.specs.Places.{standings}
use Rattle.ticklab_files.specs.Asking.{TextPlace}
use Rattle.ticklab_runs.specs.Objects.{broken_line}

-- An object with these members, the schedule that was found, what each of its steps does, and the line that breaks after
-- it, if one does.
pub record IsRunObject (head : Members) (input : List ℕ) (a : WholeProgram Name) (schedule : List ℕ) (broken : Option BrokenLine) (out : List ℕ) : Type 0 where
  pub tokens : List Token
  pub spelled : Spells input tokens
  pub steps : List StatementStep
  pub are_steps : AreStatementSteps (resolved a) schedule steps
  pub object : out ≡ lines (run_data head (record { schedule = schedule; trace = statement_list a (standings input tokens a) None false None 0 steps; broken = broken }) ∷ [])

-- the line that stands here breaks
pub record IsBreakObject (head : Members) (input : List ℕ) (a : WholeProgram Name) (schedule : List ℕ) (place : TextPlace) (v : Valued) (out : List ℕ) : Type 0 where
  pub at : Place
  pub is_place : IsPlace place.text (min place.span.start (length place.text)) at
  pub object : IsRunObject head input a schedule (Some (broken_line place at (length schedule) v)) out
