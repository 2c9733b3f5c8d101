-- What a page has of each step: of a program and of a code the same.
use Rattle.std.specs.Prelude.{ℕ, ◌+◌, List, [], ◌∷◌, slice_get, Option, Some, None, option_and_then, Bool, true, false, min, if◌then◌else◌}
use Rattle.base.specs.declared.event.Act.{Act}
use Rattle.base.specs.declared.event.Act.TheVariants as A
use Rattle.code_core.specs.declared.instr.Instr.{Instr}
use Rattle.ticklab_trace.specs.Places.{Standing}
use Rattle.code_core.specs.declared.instr.Instr.TheVariants as I
use Rattle.ticklab_trace.specs.declared.steps.Scanned.{Scanned}
use Rattle.ticklab_trace.specs.declared.steps.StatementStep.{StatementStep}
use Rattle.ticklab_trace.specs.declared.steps.InstructionStep.{InstructionStep}
use Rattle.ticklab_page.specs.declared.steps.PageStep.{PageStep}

-- a line of the text that is shown; 0 is none
abbrev pub line_in : Option Standing → ℕ
line_in None = 0
line_in (Some spot) = spot.line

abbrev pub statement_line : List Standing → Option ℕ → ℕ
statement_line spots number = line_in (option_and_then (slice_get spots) number)

-- The step of a program, whose statements stand there.
abbrev pub of_statement : List Standing → StatementStep → PageStep
of_statement spots step = record {
  process = step.process;
  line = statement_line spots step.number;
  act = step.act;
  written = step.written;
  scanned = step.scanned;
  tickets = step.tickets;
  labels = None;
}

-- each instruction has a line
abbrev pub instruction_line : ℕ → Option Instr → ℕ
instruction_line place None = 0
instruction_line place (Some i) = place + 1

-- the scan that an instruction takes or copies
abbrev pub scanned_by : Instr → Option Scanned
scanned_by (I.Scan s) = Some (record { scan = s; of = None })
scanned_by (I.Copy s t) = Some (record { scan = t; of = Some s })
scanned_by _ = None

-- The step of a code. It doesn't say what it wrote of the process's own variables.
abbrev pub of_instruction : InstructionStep → PageStep
of_instruction step = record {
  process = step.process;
  line = instruction_line step.place step.instruction;
  act = step.act;
  written = None;
  scanned = option_and_then scanned_by step.instruction;
  tickets = None;
  labels = step.labels;
}

abbrev pub is_trap : Option Act → Bool
is_trap (Some (A.Trap t)) = true
is_trap _ = false

-- the number of the first step that traps, by what others see of the steps, where the first of these has this number
abbrev pub first_trap : ℕ → List (Option Act) → Option ℕ
first_trap number [] = None
first_trap number (act ∷ acts) = if is_trap act then Some number else first_trap (number + 1) acts

-- The page opens after the first trap or where a line breaks, whichever comes first; else at the start.
abbrev pub opened_at : Option ℕ → Option ℕ → ℕ
opened_at None None = 0
opened_at None (Some broken) = broken
opened_at (Some trap) None = trap
opened_at (Some trap) (Some broken) = min trap broken
