-- The steps of a trace as objects, one in a line.
use Rattle.std.specs.Prelude.{ℕ, zero, suc, ◌+◌, ◌==◌, if◌then◌else◌, Bool, true, false, List, [], ◌∷◌, ◌++◌, codes, length, slice_get, slice_index, Option, Some, None, Ok, Err, option_and_then, option_map}
use Rattle.base.specs.Plain.{Name, WholeProgram}
use Rattle.base.specs.declared.event.Act.{Act}
use Rattle.base.specs.declared.event.Act.TheVariants as A
use Rattle.code_core.specs.declared.instr.Instr.{Instr}
use Rattle.code_text.specs.CodeText.{instr_text}
use Rattle.language_properties.specs.Values.{Valued}
use Rattle.serde_json.specs.Data.{Data, null, boolean, string, array, object, Members, no_members, member, put}
use Rattle.serde_json.specs.View.{items_of}
use Rattle.tick_play.specs.Lines.{trap_text}
use Rattle.word_core.specs.Stamps.{Labels}
use Rattle.ticklab_trace.specs.Folds.{is_private_act, is_private_made}
use Rattle.ticklab_trace.specs.Places.{Standing}
use Rattle.ticklab_trace.specs.Parts.{part_at}
use Rattle.ticklab_trace.specs.TraceText.{label_rank, name_at, ticket_rank}
use Rattle.ticklab_trace.specs.declared.parts.Part.{Part}
use Rattle.ticklab_trace.specs.declared.parts.Part.TheVariants.{Schedule, LeadIn, Cycle}
use Rattle.ticklab_trace.specs.declared.parts.Parts.{Parts}
use Rattle.ticklab_trace.specs.declared.steps.Written.{Written}
use Rattle.ticklab_trace.specs.declared.steps.StatementStep.{StatementStep}
use Rattle.ticklab_trace.specs.declared.steps.InstructionStep.{InstructionStep}
use Rattle.ticklab_json.specs.Events.{event_data}
use Rattle.ticklab_json.specs.Members.{count, lines, with_member}
use Rattle.ticklab_json.specs.declared.breaking.Breaking.{Breaking}

-- the number of the step, from 1, and the process
abbrev pub heading : ℕ → ℕ → Members
heading number p = member (codes "process") (count p) (member (codes "step") (count (number + 1)) no_members)

-- where a statement stands, and its words
abbrev pub with_place : Option Standing → Members → Members
with_place None members = members
with_place (Some spot) members =
    put (codes "statement") (string spot.words) (put (codes "line") (count spot.line) (put (codes "column") (count spot.column) members))

abbrev pub written_data : WholeProgram Name → Written → Data
written_data a w =
    object (member (codes "value") (count w.value) (member (codes "variable") (string (name_at a.variables w.variable)) no_members))

-- a rank, where the process holds a ticket
abbrev pub rank_data : Option ℕ → Data
rank_data None = null
rank_data (Some rank) = count rank

-- for each of the first so many processes its rank
abbrev pub ranks_to : (ℕ → Option ℕ) → ℕ → List Data
ranks_to rank zero = []
ranks_to rank (suc k) = ranks_to rank k ++ rank_data (rank k) ∷ []

abbrev pub order_data : (ℕ → Option ℕ) → ℕ → Data
order_data rank count = array (items_of (ranks_to rank count))

abbrev pub ticket_order : List ℕ → Data
ticket_order tickets = order_data (ticket_rank tickets) (length tickets)

abbrev pub label_order : Labels → Data
label_order labels = order_data (label_rank labels) (length labels)

-- the ticket that a stamp took
abbrev pub taken : ℕ → Option Act → List ℕ → Option Data
taken p (Some A.Stamp) tickets = Some (count (slice_index tickets p))
taken p _ tickets = None

-- whether a process had stopped, where it did no statement
abbrev pub stopped : Option ℕ → Option Act → Option Data
stopped None None = Some (boolean true)
stopped _ _ = None

abbrev pub statement_members : WholeProgram Name → List Standing → ℕ → StatementStep → Members
statement_members a spots number step =
    with_member (codes "stopped") (stopped step.number step.act)
    (with_member (codes "order") (option_map ticket_order step.tickets)
    (with_member (codes "ticket") (option_and_then (taken step.process step.act) step.tickets)
    (with_member (codes "written") (option_map (written_data a) step.written)
    (with_member (codes "event") (option_map (event_data a) step.act)
    (with_place (option_and_then (slice_get spots) step.number)
    (heading number step.process))))))

-- A line that must never hold, where it stands, and what it comes to after so many steps.
pub record BrokenLine : Type 0 where
  pub steps : ℕ
  pub file : List ℕ
  pub line : ℕ
  pub column : ℕ
  pub text : List ℕ
  pub value : Valued

-- as the code holds it
abbrev pub broken_line : Breaking → BrokenLine
broken_line b = record { steps = b.steps; file = b.file.now; line = b.line; column = b.column; text = b.text.now; value = b.value }

abbrev pub value_members : Valued → Members
value_members (Ok v) = member (codes "value") (count v) no_members
value_members (Err t) = member (codes "trap") (string (trap_text t)) no_members

abbrev pub break_data : BrokenLine → Data
break_data b =
    object (member (codes "column") (count b.column) (member (codes "file") (string b.file) (member (codes "line") (count b.line)
    (member (codes "text") (string b.text) (value_members b.value)))))

-- the line, where it breaks after so many steps
abbrev pub breaks_at : ℕ → BrokenLine → Option Data
breaks_at steps b = if b.steps == steps then Some (break_data b) else None

abbrev pub broken_at : ℕ → Option BrokenLine → Option Data
broken_at steps broken = option_and_then (breaks_at steps) broken

-- the part of a run that goes on for ever to which the step behind so many others belongs, by the key that it has in an answer
abbrev pub part_key : Part → List ℕ
part_key Schedule = codes "schedule"
part_key LeadIn = codes "lead_in"
part_key Cycle = codes "cycle"

abbrev pub part_data : Option Parts → ℕ → Option Data
part_data None number = None
part_data (Some parts) number = Some (string (part_key (part_at (Some parts) number)))

-- whether a step is private, where that is told
abbrev pub private_data : Bool → Bool → Option Data
private_data true is_private = Some (boolean is_private)
private_data false is_private = None

abbrev pub statement_data : WholeProgram Name → List Standing → Option Parts → Bool → Option BrokenLine → ℕ → StatementStep → Data
statement_data a spots parts tells broken number step =
    object (with_member (codes "private") (private_data tells (is_private_act step.act))
    (with_member (codes "part") (part_data parts number)
    (with_member (codes "breaks") (broken_at (number + 1) broken) (statement_members a spots number step))))

-- an object for each step, from this number on; perhaps each tells whether its step is private
abbrev pub statement_list : WholeProgram Name → List Standing → Option Parts → Bool → Option BrokenLine → ℕ → List StatementStep → List Data
statement_list a spots parts tells broken number [] = []
statement_list a spots parts tells broken number (step ∷ steps) =
    statement_data a spots parts tells broken number step ∷ statement_list a spots parts tells broken (number + 1) steps

-- a line that breaks before the first step has an object of its own
abbrev pub start_data : Data → Data
start_data breaks = object (member (codes "breaks") breaks (member (codes "step") (count 0) no_members))

abbrev pub start_list : Option Data → List Data
start_list None = []
start_list (Some breaks) = start_data breaks ∷ []

abbrev pub statement_objects : WholeProgram Name → List Standing → Option Parts → Bool → Option BrokenLine → List StatementStep → List ℕ
statement_objects a spots parts tells broken steps =
    lines (start_list (broken_at 0 broken)) ++ lines (statement_list a spots parts tells broken 0 steps)

-- The same of a code.

abbrev pub if_lost : Option Labels → Option Data
if_lost None = None
if_lost (Some found) = Some (boolean true)

-- the place of an instruction, how it reads, and what it did
abbrev pub with_instruction : WholeProgram Name → InstructionStep → Instr → Members → Members
with_instruction a step i members =
    with_member (codes "order") (option_map label_order step.labels)
    (with_member (codes "event") (option_map (event_data a) step.act)
    (with_member (codes "lost") (if_lost step.lost)
    (put (codes "instruction") (string (instr_text i)) (put (codes "place") (count step.place) members))))

abbrev pub instruction_members : WholeProgram Name → ℕ → InstructionStep → Option Instr → Members
instruction_members a number step None = put (codes "stopped") (boolean true) (heading number step.process)
instruction_members a number step (Some i) = with_instruction a step i (heading number step.process)

abbrev pub instruction_data : WholeProgram Name → Bool → ℕ → InstructionStep → Data
instruction_data a tells number step =
    object (with_member (codes "private") (private_data tells (is_private_made step.instruction step.lost step.act))
    (instruction_members a number step step.instruction))

abbrev pub instruction_list : WholeProgram Name → Bool → ℕ → List InstructionStep → List Data
instruction_list a tells number [] = []
instruction_list a tells number (step ∷ steps) = instruction_data a tells number step ∷ instruction_list a tells (number + 1) steps

abbrev pub instruction_objects : WholeProgram Name → Bool → List InstructionStep → List ℕ
instruction_objects a tells steps = lines (instruction_list a tells 0 steps)
