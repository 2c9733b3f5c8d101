-- What the engine answers, by what the words ask for and by the input.
use Rattle.std.specs.Prelude.{◌≡◌, ℕ, Bool, true, false, List, Ok, Err}
use Rattle.ticketc_line.specs.Asked.{Asked, PlainCommand, PlainRequest}
use Rattle.ticketc_line.specs.declared.command.Command.TheVariants.{Order, Check, Emit, Source, Code, Lift, Drop}
use Rattle.ticketc_line.specs.declared.command.Request.TheVariants.{Alone, Run}
use Rattle.ticketc_line.specs.declared.command.LineFault.{LineFault}
use Rattle.ticketc_line.specs.declared.command.LineFault.TheVariants.{Usage, Processes}
use Rattle.ticketc_answers.specs.Answer.{Answer, no_processes, usage}
use Rattle.ticketc_answers.specs.Codes.{OnCode, OnLowered, code_answer, emit_answer}
use Rattle.ticketc_answers.specs.Inputs.{Is, OnProgram, OnText}
use Rattle.ticketc_answers.specs.Maps.{carried_answer}
use Rattle.ticketc_answers.specs.Order.{order_answer}
use Rattle.ticketc_answers.specs.Programs.{check_answer, source_answer}
use Rattle.ticketc_answers.specs.Runs.{IsOutcomeOf}
use Rattle.ticketc_answers.specs.declared.maps.Way.TheVariants.{Lift, Drop}

-- what a command answers on an input
abbrev pub CommandAnswers : PlainCommand → List ℕ → Answer → Type 0
CommandAnswers (Order n) = OnText (Is (order_answer n))
CommandAnswers Check = OnProgram (Is check_answer)
CommandAnswers Emit = OnLowered (Is emit_answer)
CommandAnswers (Source schedule) = OnProgram (Is (source_answer schedule))
CommandAnswers (Code schedule) = OnCode (Is (code_answer schedule))
CommandAnswers (Lift schedule) = OnLowered (Is (carried_answer Lift schedule))
CommandAnswers (Drop schedule) = OnLowered (Is (carried_answer Drop schedule))

-- the same of whatever is asked for
abbrev pub InputAnswers : PlainRequest → List ℕ → Answer → Type 0
InputAnswers (Alone command) = CommandAnswers command
InputAnswers (Run turns) = OnCode (IsOutcomeOf turns)

-- words that are refused have an answer that no input changes
abbrev pub line_answer : LineFault → Answer
line_answer Usage = usage
line_answer Processes = no_processes

abbrev pub Answers : Asked → List ℕ → Answer → Type 0
Answers (Ok request) input a = InputAnswers request input a
Answers (Err fault) input a = a ≡ line_answer fault

-- whether the input is read at all
abbrev pub wants_input : Asked → Bool
wants_input (Ok request) = true
wants_input (Err fault) = false

-- whether it is a run on threads, the one command that may have more than one answer
abbrev pub is_run : PlainRequest → Bool
is_run (Alone command) = false
is_run (Run turns) = true

abbrev pub asks_run : Asked → Bool
asks_run (Ok request) = is_run request
asks_run (Err fault) = false
