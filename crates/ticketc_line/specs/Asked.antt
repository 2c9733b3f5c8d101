-- The command that a name and a text ask for, with the number in the text read, or why they are refused.
use Rattle.std.specs.Prelude.{ℕ, ◌≤◌, ◌&&◌, nat_le, nat_lt, List, Option, Some, None, Result, Ok, Err, if◌then◌else◌, bytes_eq, codes}
use Rattle.std.specs.Borrow.{Bor}
use Rattle.base.specs.Number.{number_of}
use Rattle.ticketc_line.specs.declared.command.Command.{Command}
use Rattle.ticketc_line.specs.declared.command.Command.TheVariants.{Order, Check, Emit, Source, Code, Lift, Drop}
use Rattle.ticketc_line.specs.declared.command.Request.{Request}
use Rattle.ticketc_line.specs.declared.command.Request.TheVariants.{Alone, Run}
use Rattle.ticketc_line.specs.declared.command.LineFault.{LineFault}
use Rattle.ticketc_line.specs.declared.command.LineFault.TheVariants.{Usage, Processes}

-- a command, with the schedule that goes with it as a text
abbrev pub PlainCommand : Type 0
PlainCommand = Command (List ℕ)

abbrev pub PlainRequest : Type 0
PlainRequest = Request (List ℕ)

-- what a command line asks for, or why it is refused
abbrev pub Asked : Type 0
Asked = Result PlainRequest LineFault

-- a command with a schedule that is lent, as one with its text
abbrev pub plain_command : Command (Bor (List ℕ)) → PlainCommand
plain_command (Order n) = Order n
plain_command Check = Check
plain_command Emit = Emit
plain_command (Source schedule) = Source schedule.now
plain_command (Code schedule) = Code schedule.now
plain_command (Lift schedule) = Lift schedule.now
plain_command (Drop schedule) = Drop schedule.now

abbrev pub plain_request : Request (Bor (List ℕ)) → PlainRequest
plain_request (Alone command) = Alone (plain_command command)
plain_request (Run turns) = Run turns

abbrev pub plain_asked : Result (Request (Bor (List ℕ))) LineFault → Asked
plain_asked (Ok request) = Ok (plain_request request)
plain_asked (Err fault) = Err fault

-- its number of processes is one that a label word can have
abbrev pub Fits : PlainCommand → Type 0
Fits (Order n) = (1 ≤ n) × (n ≤ 6)
Fits other = Unit {0}

abbrev pub FitsRequest : PlainRequest → Type 0
FitsRequest (Alone command) = Fits command
FitsRequest (Run turns) = Unit {0}

-- a number up to the limit
abbrev pub lawful : ℕ → Option ℕ → Option ℕ
lawful limit None = None
lawful limit (Some n) = if nat_le n limit then Some n else None

-- 1 to 6 processes; a greater number is told apart from what is no number
abbrev pub fitting : Option ℕ → Result ℕ LineFault
fitting None = Err Usage
fitting (Some n) = if nat_lt 0 n && nat_le n 6 then Ok n else Err Processes

abbrev pub processes_of : List ℕ → Result ℕ LineFault
processes_of text = fitting (lawful 4294967295 (number_of text))

abbrev pub wanted : Option ℕ → Result ℕ LineFault
wanted None = Err Usage
wanted (Some turns) = Ok turns

abbrev pub turns_of : List ℕ → Result ℕ LineFault
turns_of text = wanted (lawful 1000000000 (number_of text))

-- what is asked for with a number
abbrev pub with_number : (ℕ → PlainRequest) → Result ℕ LineFault → Asked
with_number by (Ok n) = Ok (by n)
with_number by (Err fault) = Err fault

-- what is asked for by this name, with the text that it wants
abbrev pub named_with : List ℕ → List ℕ → Asked
named_with name text =
    if bytes_eq name (codes "order") then with_number (λ n. Alone (Order n)) (processes_of text)
    else if bytes_eq name (codes "source") then Ok (Alone (Source text))
    else if bytes_eq name (codes "code") then Ok (Alone (Code text))
    else if bytes_eq name (codes "lift") then Ok (Alone (Lift text))
    else if bytes_eq name (codes "drop") then Ok (Alone (Drop text))
    else if bytes_eq name (codes "run") then with_number Run (turns_of text)
    else Err Usage

abbrev pub with_text : (List ℕ → Asked) → Option (List ℕ) → Asked
with_text by (Some text) = by text
with_text by None = Err Usage

abbrev pub named : List ℕ → Option (List ℕ) → Asked
named name text =
    if bytes_eq name (codes "check") then Ok (Alone Check)
    else if bytes_eq name (codes "emit") then Ok (Alone Emit)
    else with_text (named_with name) text
