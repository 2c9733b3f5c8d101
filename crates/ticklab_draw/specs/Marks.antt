-- The marks of a run: one for each event, in order, at the number of its step.
use Rattle.std.specs.Prelude.{ℕ, ◌+◌, ◌==◌, ◌&&◌, Bool, false, if◌then◌else◌, List, [], ◌∷◌, ◌++◌, Option, Some, None, option_and_then, option_map}
use Rattle.base.specs.Rows.{padded}
use Rattle.base.specs.declared.event.Act.{Act}
use Rattle.base.specs.declared.event.Act.TheVariants as A
use Rattle.base.specs.declared.event.Event.{Event}
use Rattle.word_core.specs.Stamps.{Labels}
use Rattle.ticklab_trace.specs.declared.steps.InstructionStep.{InstructionStep}
use Rattle.ticklab_trace.specs.declared.steps.StatementStep.{StatementStep}
use Rattle.ticklab_draw.specs.declared.mark.Mark.{Mark}
use Rattle.ticklab_draw.specs.declared.mark.Sight.{Sight}
use Rattle.ticklab_draw.specs.declared.mark.Sight.TheVariants as S
use Rattle.ticklab_draw.specs.declared.mark.Holdings.{Holdings}
use Rattle.ticklab_draw.specs.declared.mark.Holdings.TheVariants as H

-- the row into which a put writes
abbrev pub row_put : Act → Option ℕ
row_put (A.Put r v) = Some r
row_put _ = None

abbrev pub is_row : ℕ → Option ℕ → Bool
is_row r None = false
is_row r (Some row) = row == r

abbrev pub act_of : Sight → Option Act
act_of (S.Act act) = Some act
act_of (S.Get r i v put) = Some (A.Get r i v)
act_of (S.Stamp held) = Some A.Stamp
act_of (S.Clear held) = Some A.Clear
act_of (S.Lost held) = None

-- whether it is a put of process `i` into row `r`
abbrev pub is_put : ℕ → ℕ → Mark → Bool
is_put r i m = (m.process == i) && is_row r (option_and_then row_put (act_of m.sight))

-- the place of the last put of process `i` into row `r`: that so far, or one of the marks from this place on
abbrev pub last_put_from : ℕ → Option ℕ → ℕ → ℕ → List Mark → Option ℕ
last_put_from at last r i [] = last
last_put_from at last r i (m ∷ marks) = last_put_from (at + 1) (if is_put r i m then Some at else last) r i marks

abbrev pub last_put : ℕ → ℕ → List Mark → Option ℕ
last_put r i marks = last_put_from 0 None r i marks

-- what is shown of an act, where these marks are before it; of a stamp and a clear what is held after it
abbrev pub sight_of : List Mark → Act → Option Holdings → Sight
sight_of marks (A.Get r i v) held = S.Get r i v (last_put r i marks)
sight_of marks A.Stamp (Some held) = S.Stamp held
sight_of marks A.Clear (Some held) = S.Clear held
sight_of marks act held = S.Act act

abbrev pub mark_of : ℕ → Option Holdings → List Mark → Event → Mark
mark_of number held marks event = record { step = number; process = event.process; sight = sight_of marks event.act held }

-- the marks with that of an event of the step of this number
abbrev pub with_event : ℕ → Option Holdings → Event → List Mark → List Mark
with_event number held event marks = marks ++ mark_of number held marks event ∷ []

-- the marks with that of what others see of process `p`, where they see something
abbrev pub with_act : ℕ → ℕ → Option Holdings → Option Act → List Mark → List Mark
with_act number p held None marks = marks
with_act number p held (Some act) marks = with_event number held (record { process = p; act = act }) marks

-- the marks with that of an exchange that process `p` lost to what is held
abbrev pub with_lost : ℕ → ℕ → Holdings → List Mark → List Mark
with_lost number p held marks = marks ++ record { step = number; process = p; sight = S.Lost held } ∷ []

abbrev pub tickets_held : List ℕ → Holdings
tickets_held tickets = H.Tickets (padded 6 0 tickets)

-- the marks with that of a step of a program, where it has one
abbrev pub with_statement : ℕ → StatementStep → List Mark → List Mark
with_statement number step marks = with_act number step.process (option_map tickets_held step.tickets) step.act marks

-- the same of a code: of what others see, or of an exchange that nobody saw
abbrev pub with_found : ℕ → InstructionStep → Option Labels → List Mark → List Mark
with_found number step None marks = with_act number step.process (option_map H.Labels step.labels) step.act marks
with_found number step (Some labels) marks = with_lost number step.process (H.Labels labels) marks

abbrev pub with_instruction : ℕ → InstructionStep → List Mark → List Mark
with_instruction number step marks = with_found number step step.lost marks

-- The marks with those of these steps, the first of which has this number.
abbrev pub marks_on : {X : Type 0} → (ℕ → X → List Mark → List Mark) → ℕ → List Mark → List X → List Mark
marks_on add number marks [] = marks
marks_on add number marks (step ∷ steps) = marks_on add (number + 1) (add number step marks) steps

-- the marks of a run of a program, and of a code, that makes these steps
abbrev pub statement_marks : List StatementStep → List Mark
statement_marks steps = marks_on with_statement 1 [] steps

abbrev pub instruction_marks : List InstructionStep → List Mark
instruction_marks steps = marks_on with_instruction 1 [] steps
