-- Private steps, which touch nothing that processes share, and rows of them: steps of one process, one after the other, in one
-- part of a run.
use Rattle.std.specs.Prelude.{ℕ, ◌+◌, ◌==◌, ◌&&◌, if◌then◌else◌, is_none, nat_lt, not, Bool, true, false, List, [], ◌∷◌, ◌++◌, map, Option, Some, None}
use Rattle.base.specs.declared.event.Act.{Act}
use Rattle.base.specs.declared.event.Act.TheVariants as A
use Rattle.word_core.specs.Stamps.{Labels}
use Rattle.code_core.specs.declared.instr.Instr.{Instr}
use Rattle.code_core.specs.declared.instr.Instr.TheVariants as I
use Rattle.ticklab_trace.specs.Parts.{begun_at}
use Rattle.ticklab_trace.specs.declared.folds.Fold.{Fold}
use Rattle.ticklab_trace.specs.declared.folds.Fold.TheVariants.{Apart, Begins, Within}
use Rattle.ticklab_trace.specs.declared.folds.Privacy.{Privacy}
use Rattle.ticklab_trace.specs.declared.folds.Row.{Row}
use Rattle.ticklab_trace.specs.declared.parts.Parts.{Parts}
use Rattle.ticklab_trace.specs.declared.steps.StatementStep.{StatementStep}
use Rattle.ticklab_trace.specs.declared.steps.InstructionStep.{InstructionStep}

-- whether other processes can see an act: no question of a process to itself, and nothing that it gives out
abbrev pub is_shared_act : Act → Bool
is_shared_act (A.Older i j answer) = false
is_shared_act (A.Held i answer) = false
is_shared_act (A.Out v) = false
is_shared_act act = true

-- whether a step is private that shows this
abbrev pub is_private_act : Option Act → Bool
is_private_act None = true
is_private_act (Some act) = not (is_shared_act act)

-- the same of an instruction; no other process sees that one loads the labels or loses an exchange to them, but by these a
-- process sees what others do
abbrev pub is_private_made : Option Instr → Option Labels → Option Act → Bool
is_private_made (Some I.LoadWord) lost act = false
is_private_made instruction None act = is_private_act act
is_private_made instruction (Some found) act = false

-- whose a step is, and whether it is private
abbrev pub statement_privacy : StatementStep → Privacy
statement_privacy step = record { process = step.process; is_private = is_private_act step.act }

abbrev pub instruction_privacy : InstructionStep → Privacy
instruction_privacy step = record { process = step.process; is_private = is_private_made step.instruction step.lost step.act }

-- whether a step, behind so many others, goes on with a row
abbrev pub goes_on : Option Parts → ℕ → Option Row → Privacy → Bool
goes_on parts number None step = false
goes_on parts number (Some row) step = step.is_private && (step.process == row.process) && is_none (begun_at parts number)

-- a row that is one step longer, and one of a single step
abbrev pub longer : ℕ → Option Row → Option Row
longer number None = None
longer number (Some row) = Some (record { first = row.first; end = number + 1; process = row.process })

abbrev pub begun : ℕ → Privacy → Option Row
begun number step = if step.is_private then Some (record { first = number; end = number + 1; process = step.process }) else None

-- the row that ends with a step, before which this one is there
abbrev pub row_with : Option Parts → ℕ → Option Row → Privacy → Option Row
row_with parts number row step = if goes_on parts number row step then longer number row else begun number step

abbrev pub listed : Option Row → List Row
listed None = []
listed (Some row) = row ∷ []

-- the row that is over before a step
abbrev pub over : Option Parts → ℕ → Option Row → Privacy → List Row
over parts number row step = if goes_on parts number row step then [] else listed row

-- The rows of private steps, as long as can be: this one, with which the steps may go on, and those of the steps. The first of
-- the steps stands behind so many others.
abbrev pub rows_from : Option Parts → ℕ → Option Row → List Privacy → List Row
rows_from parts number row [] = listed row
rows_from parts number row (step ∷ steps) =
    over parts number row step ++ rows_from parts (number + 1) (row_with parts number row step) steps

-- the rows that don't end with the step behind so many others, nor before it
abbrev pub rows_past : List Row → ℕ → List Row
rows_past [] number = []
rows_past (row ∷ rows) number = if row.end == number + 1 then rows else row ∷ rows

-- whether the first of these rows ends with it
abbrev pub ends_row : List Row → ℕ → Bool
ends_row [] number = false
ends_row (row ∷ rows) number = row.end == number + 1

-- how that step stands to the rows that don't end before it
abbrev pub fold_at : List Row → ℕ → Fold
fold_at [] number = Apart
fold_at (row ∷ rows) number =
    if nat_lt number row.first then Apart else if row.first == number then Begins row else Within

-- the rows of the steps of a program that stand behind so many others, and of a code
abbrev pub statement_rows : Option Parts → ℕ → List StatementStep → List Row
statement_rows parts number steps = rows_from parts number None (map statement_privacy steps)

abbrev pub instruction_rows : List InstructionStep → List Row
instruction_rows steps = rows_from None 0 None (map instruction_privacy steps)
