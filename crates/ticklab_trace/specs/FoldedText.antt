-- What a trace says where private steps are folded: a line for each row of them, and for each other step its own.
use Rattle.std.specs.Prelude.{ℕ, ◌+◌, ◌-◌, ◌==◌, if◌then◌else◌, List, [], ◌∷◌, ◌++◌, codes, Option}
use Rattle.std.specs.Fmt.{decimal}
use Rattle.base.specs.Lines.{line_end}
use Rattle.base.specs.Plain.{Name, WholeProgram}
use Rattle.ticklab_trace.specs.Folds.{fold_at, instruction_rows, rows_past, statement_rows}
use Rattle.ticklab_trace.specs.Parts.{begun_at}
use Rattle.ticklab_trace.specs.Places.{Standing}
use Rattle.ticklab_trace.specs.TraceText.{head, instruction_line, part_line, statement_line}
use Rattle.ticklab_trace.specs.declared.folds.Fold.{Fold}
use Rattle.ticklab_trace.specs.declared.folds.Fold.TheVariants.{Apart, Begins, Within}
use Rattle.ticklab_trace.specs.declared.folds.Row.{Row}
use Rattle.ticklab_trace.specs.declared.parts.Parts.{Parts}
use Rattle.ticklab_trace.specs.declared.steps.StatementStep.{StatementStep}
use Rattle.ticklab_trace.specs.declared.steps.InstructionStep.{InstructionStep}

-- how many steps a row has, and the number of its last, from 1
abbrev pub row_words : ℕ → ℕ → List ℕ
row_words count end = if count == 1 then codes "1 private step" else decimal count ++ codes " private steps, up to step " ++ decimal end

-- a row that begins behind so many steps: the number of its first step, its process, and these words
abbrev pub row_text : ℕ → Row → List ℕ
row_text number row = head number row.process ++ row_words (row.end - number) row.end

-- what stands for a step whose own line is this: that of the row that it begins, and nothing for a further step of a row
abbrev pub folded_line : Fold → ℕ → List ℕ → List ℕ
folded_line Apart number line = line
folded_line (Begins row) number line = row_text number row ++ line_end
folded_line Within number line = []

-- the lines of these steps of a program, where these rows don't end before them
abbrev pub statements_in : WholeProgram Name → List Standing → Option Parts → List Row → ℕ → List StatementStep → List ℕ
statements_in a spots parts rows number [] = []
statements_in a spots parts rows number (step ∷ steps) =
    part_line (begun_at parts number) ++ folded_line (fold_at rows number) number (statement_line a spots number step)
    ++ statements_in a spots parts (rows_past rows number) (number + 1) steps

abbrev pub folded_statements : WholeProgram Name → List Standing → Option Parts → ℕ → List StatementStep → List ℕ
folded_statements a spots parts number steps = statements_in a spots parts (statement_rows parts number steps) number steps

-- The same of a code.
abbrev pub instructions_in : WholeProgram Name → List Row → ℕ → List InstructionStep → List ℕ
instructions_in a rows number [] = []
instructions_in a rows number (step ∷ steps) =
    folded_line (fold_at rows number) number (instruction_line a number step) ++ instructions_in a (rows_past rows number) (number + 1) steps

abbrev pub folded_instructions : WholeProgram Name → List InstructionStep → List ℕ
folded_instructions a steps = instructions_in a (instruction_rows steps) 0 steps
