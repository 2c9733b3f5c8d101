-- The text about steps of a program that repeat for ever, and about the schedule that leads there.
use Rattle.std.specs.Prelude.{◌≡◌, ◌++◌, ℕ, Bool, true, false, List, [], ◌∷◌, Option, None, Some, drop, length, take}
use Rattle.std.specs.List.{list_any}
use Rattle.base.specs.Plain.{Name, WholeProgram}
use Rattle.base.specs.declared.event.Act.{Act}
use Rattle.base.specs.declared.event.Act.TheVariants as A
use Rattle.tick_syntax.specs.Spelling.{Spells}
use Rattle.tick_syntax.specs.declared.token.Token.{Token}
use Rattle.tick_kinds.specs.Resolution.{resolved}
use Rattle.ticklab_json.specs.Found.{loop_data}
use Rattle.ticklab_json.specs.Members.{lines}
use Rattle.ticklab_json.specs.Steps.{statement_list}
use Rattle.ticklab_trace.specs.declared.steps.StatementStep.{StatementStep}
use Rattle.ticklab_trace.specs.Places.{Standing, standings}
use Rattle.ticklab_trace.specs.StatementSteps.{AreStatementSteps}
use Rattle.ticklab_trace.specs.TraceText.{statement_lines}
use Rattle.ticklab_verdicts.specs.Lines.{cycle_line, lead_in_line, trap_lines}

-- whether it changes what all share: a register or the tickets
abbrev pub is_write : Option Act → Bool
is_write (Some (A.Put r v)) = true
is_write (Some A.Stamp) = true
is_write (Some A.Clear) = true
is_write act = false

-- Steps of a program, under a line that says what they are, and what each of them does.
abbrev pub steps_text : WholeProgram Name → List Standing → List ℕ → List ℕ → List StatementStep → List ℕ
steps_text a spots words schedule steps = trap_lines words schedule ++ statement_lines a spots None 0 steps

-- the steps that lead on, where there are some
abbrev pub lead_in_text : WholeProgram Name → List Standing → List ℕ → List StatementStep → List ℕ
lead_in_text a spots [] steps = []
lead_in_text a spots (p ∷ lead_in) steps = steps_text a spots lead_in_line (p ∷ lead_in) steps

-- those that repeat for ever
abbrev pub cycle_text : WholeProgram Name → List Standing → List ℕ → List StatementStep → List ℕ
cycle_text a spots cycle steps = steps_text a spots (cycle_line (list_any (λ step. is_write step.act) steps)) cycle steps

-- a schedule, how it was found, and these after it, where the steps of all are those
abbrev pub loop_text : WholeProgram Name → List Standing → List ℕ → List ℕ → List ℕ → List ℕ → List StatementStep → List ℕ
loop_text a spots found schedule lead_in cycle steps =
    steps_text a spots found schedule (take (length schedule) steps)
    ++ lead_in_text a spots lead_in (take (length lead_in) (drop (length schedule) steps))
    ++ cycle_text a spots cycle (drop (length lead_in) (drop (length schedule) steps))

-- How a schedule was found, and what repeats for ever after it, with what each step does.
pub record IsLoopText (found input : List ℕ) (a : WholeProgram Name) (schedule lead_in cycle out : List ℕ) : Type 0 where
  pub tokens : List Token
  pub spelled : Spells input tokens
  pub steps : List StatementStep
  pub are_steps : AreStatementSteps (resolved a) (schedule ++ lead_in ++ cycle) steps
  pub whole : out ≡ loop_text a (standings input tokens a) found schedule lead_in cycle steps

-- The same as an object.
pub record IsLoopObject (answer says input : List ℕ) (a : WholeProgram Name) (schedule lead_in cycle out : List ℕ) : Type 0 where
  pub tokens : List Token
  pub spelled : Spells input tokens
  pub steps : List StatementStep
  pub are_steps : AreStatementSteps (resolved a) (schedule ++ lead_in ++ cycle) steps
  pub object : out ≡ lines (loop_data answer says (record { schedule = schedule; lead_in = lead_in; cycle = cycle; trace = statement_list a (standings input tokens a) None false None 0 steps }) ∷ [])
