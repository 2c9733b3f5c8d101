-- What a trace says: a line for each step.
use Rattle.std.specs.Prelude.{ℕ, zero, suc, ◌+◌, ◌-◌, List, [], ◌∷◌, ◌++◌, codes, length, map, replicate, slice_get, slice_index, take, Option, Some, None, if◌then◌else◌}
use Rattle.std.specs.Fmt.{decimal}
use Rattle.base.specs.Lines.{line_end}
use Rattle.ticket_core.specs.Tickets.{ticket_ranks, holds_ticket}
use Rattle.base.specs.declared.event.Act.{Act}
use Rattle.base.specs.declared.event.Act.TheVariants as A
use Rattle.word_core.specs.Stamps.{Labels, label_at, is_present}
use Rattle.word_core.specs.Order.{label_ranks}
use Rattle.code_core.specs.declared.instr.Instr.{Instr}
use Rattle.code_text.specs.CodeText.{instr_text}
use Rattle.base.specs.Plain.{Name, WholeProgram}
use Rattle.tick_play.specs.Lines.{trap_text}
use Rattle.ticklab_trace.specs.Parts.{begun_at, part_name}
use Rattle.ticklab_trace.specs.Places.{Standing}
use Rattle.ticklab_trace.specs.declared.parts.Part.{Part}
use Rattle.ticklab_trace.specs.declared.parts.Parts.{Parts}
use Rattle.ticklab_trace.specs.declared.steps.Written.{Written}
use Rattle.ticklab_trace.specs.declared.steps.StatementStep.{StatementStep}
use Rattle.ticklab_trace.specs.declared.steps.InstructionStep.{InstructionStep}

-- The columns: a number to the right of four characters, other words to the left of their width.
abbrev pub right : ℕ → List ℕ
right number = replicate (4 - length (decimal number)) 32 ++ decimal number

abbrev pub left : List ℕ → ℕ → List ℕ
left words width = words ++ replicate (width - length words) 32

-- the number of the step, from 1, and the process
abbrev pub head : ℕ → ℕ → List ℕ
head number p = right (number + 1) ++ codes "  P" ++ decimal p ++ codes "  "

abbrev pub where_text : ℕ → ℕ → List ℕ
where_text line column = right line ++ codes ":" ++ left (decimal column) 3 ++ codes "  "

abbrev pub place_text : ℕ → List ℕ
place_text place = right place ++ codes "  "

-- what comes between words of so many bytes and what the step did
abbrev pub words_end : ℕ → List ℕ
words_end count = replicate (32 - count) 32 ++ codes " | "

-- words before what the step did
abbrev pub words_text : List ℕ → List ℕ
words_text words = words ++ words_end (length words)

abbrev pub letters_of : Option Name → List ℕ
letters_of None = []
letters_of (Some name) = name.letters

-- a name of a section by its number
abbrev pub name_at : List Name → ℕ → List ℕ
name_at section number = letters_of (slice_get section number)

-- a register, by its row and the process whose it is
abbrev pub register_text : List Name → ℕ → ℕ → ℕ → List ℕ
register_text registers row owner value = name_at registers row ++ codes "[" ++ decimal owner ++ codes "] = " ++ decimal value

abbrev pub variable_text : List Name → ℕ → ℕ → List ℕ
variable_text variables x value = name_at variables x ++ codes " = " ++ decimal value

-- a rank, where the process holds a ticket
abbrev pub rank_text : Option ℕ → List ℕ
rank_text None = codes " -"
rank_text (Some rank) = codes " " ++ decimal rank

abbrev pub ranks_text : List (Option ℕ) → List ℕ
ranks_text [] = []
ranks_text (rank ∷ ranks) = rank_text rank ++ ranks_text ranks

-- what others see of a step of process `p`
abbrev pub act_text : WholeProgram Name → ℕ → Act → List ℕ
act_text a p (A.Put r v) = codes "put " ++ register_text a.registers r p v
act_text a p (A.Get r i v) = codes "get " ++ register_text a.registers r i v
act_text a p A.Stamp = codes "stamp"
act_text a p A.Clear = codes "clear"
act_text a p (A.Scan ranks) = codes "scan" ++ ranks_text (map (λ rank. Some rank) (take a.processes ranks))
act_text a p (A.Older i j answer) = codes "older " ++ decimal i ++ codes " " ++ decimal j ++ codes " = " ++ decimal answer
act_text a p (A.Held i answer) = codes "held " ++ decimal i ++ codes " = " ++ decimal answer
act_text a p (A.Out v) = codes "out " ++ decimal v
act_text a p (A.Trap t) = codes "trap " ++ trap_text t
act_text a p A.End = codes "end"

-- for each of the first so many processes its rank
abbrev pub ranks_to : (ℕ → Option ℕ) → ℕ → List ℕ
ranks_to rank zero = []
ranks_to rank (suc k) = ranks_to rank k ++ rank_text (rank k)

-- the rank of a process among these tickets, and among these labels, where it holds one
abbrev pub ticket_rank : List ℕ → ℕ → Option ℕ
ticket_rank tickets i = if holds_ticket tickets i then Some (slice_index (ticket_ranks tickets) i) else None

abbrev pub label_rank : Labels → ℕ → Option ℕ
label_rank labels i = if is_present (label_at labels i) then Some (slice_index (label_ranks labels) i) else None

-- the ticket that a stamp took
abbrev pub taken_text : Act → ℕ → List ℕ → List ℕ
taken_text A.Stamp p tickets = codes ", ticket " ++ decimal (slice_index tickets p)
taken_text _ p tickets = []

-- and the order of all processes
abbrev pub order_text : ℕ → Act → Option (List ℕ) → List ℕ
order_text p act None = []
order_text p act (Some tickets) = taken_text act p tickets ++ codes ", order" ++ ranks_to (ticket_rank tickets) (length tickets)

abbrev pub label_order_text : Option Labels → List ℕ
label_order_text None = []
label_order_text (Some labels) = codes ", order" ++ ranks_to (label_rank labels) (length labels)

-- the words of a statement, and what it did
abbrev pub done_text : WholeProgram Name → List ℕ → ℕ → Option Act → Option Written → Option (List ℕ) → List ℕ
done_text a words p None None tickets = words
done_text a words p None (Some w) tickets = words_text words ++ variable_text a.variables w.variable w.value
done_text a words p (Some act) None tickets = words_text words ++ act_text a p act ++ order_text p act tickets
done_text a words p (Some act) (Some w) tickets =
    words_text words ++ act_text a p act ++ codes ", " ++ variable_text a.variables w.variable w.value

-- where it stands, its words, and what it did
abbrev pub spot_text : WholeProgram Name → StatementStep → Option Act → Option Standing → List ℕ
spot_text a step act None = where_text 0 0 ++ done_text a [] step.process act step.written step.tickets
spot_text a step act (Some spot) = where_text spot.line spot.column ++ done_text a spot.words step.process act step.written step.tickets

-- what comes after the process
abbrev pub step_text : WholeProgram Name → List Standing → StatementStep → Option ℕ → Option Act → List ℕ
step_text a spots step None None = codes "stopped"
step_text a spots step None (Some act) = replicate 10 32 ++ done_text a [] step.process (Some act) step.written step.tickets
step_text a spots step (Some k) act = spot_text a step act (slice_get spots k)

abbrev pub statement_line : WholeProgram Name → List Standing → ℕ → StatementStep → List ℕ
statement_line a spots number step = head number step.process ++ step_text a spots step step.number step.act ++ line_end

-- the line of a part that begins
abbrev pub part_line : Option Part → List ℕ
part_line None = []
part_line (Some part) = codes "-- " ++ part_name part ++ line_end

-- a line for each step, from this number on, and one before each part that begins
abbrev pub statement_lines : WholeProgram Name → List Standing → Option Parts → ℕ → List StatementStep → List ℕ
statement_lines a spots parts number [] = []
statement_lines a spots parts number (step ∷ steps) =
    part_line (begun_at parts number) ++ statement_line a spots number step ++ statement_lines a spots parts (number + 1) steps

-- The same of a code.
abbrev pub made_text : WholeProgram Name → List ℕ → InstructionStep → Option Labels → Option Act → List ℕ
made_text a words step (Some found) act = words_text words ++ codes "lost"
made_text a words step None None = words
made_text a words step None (Some act) = words_text words ++ act_text a step.process act ++ label_order_text step.labels

abbrev pub instruction_text : WholeProgram Name → InstructionStep → Option Instr → List ℕ
instruction_text a step None = codes "stopped"
instruction_text a step (Some i) = place_text step.place ++ made_text a (instr_text i) step step.lost step.act

abbrev pub instruction_line : WholeProgram Name → ℕ → InstructionStep → List ℕ
instruction_line a number step = head number step.process ++ instruction_text a step step.instruction ++ line_end

abbrev pub instruction_lines : WholeProgram Name → ℕ → List InstructionStep → List ℕ
instruction_lines a number [] = []
instruction_lines a number (step ∷ steps) = instruction_line a number step ++ instruction_lines a (number + 1) steps
