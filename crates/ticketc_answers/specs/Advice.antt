-- What a terminal is told besides an answer: which command says more about a refusal.
use Rattle.std.specs.Prelude.{◌≡◌, ⊤, ℕ, ◌==◌, List, Option, Some, None, Result, Ok, Err, if◌then◌else◌, option_map}
use Rattle.std.specs.Borrow.{Bor}
use Rattle.std.specs.declared.io.Error.{Error}
use Rattle.ticketc_line.specs.Asked.{Asked, PlainCommand, PlainRequest}
use Rattle.ticketc_line.specs.declared.command.Command.TheVariants.{Order, Check, Emit}
use Rattle.ticketc_line.specs.declared.command.LineFault.{LineFault}
use Rattle.ticketc_line.specs.declared.command.LineFault.TheVariants.{Usage, Processes}
use Rattle.ticketc_line.specs.declared.command.Request.TheVariants.{Alone, Run}
use Rattle.ticketc_answers.specs.Ended.{Words, asked_by}
use Rattle.ticketc_answers.specs.declared.advising.TheConstants.{OF_INPUT, OF_SCHEDULE, OF_STAMPS, OF_STANDARD_INPUT}

-- of a command whose input was refused
abbrev pub command_advice : PlainCommand → List ℕ
command_advice (Order n) = OF_STAMPS.now
command_advice Check = OF_INPUT.now
command_advice Emit = OF_INPUT.now
command_advice other = OF_SCHEDULE.now

abbrev pub request_advice : PlainRequest → List ℕ
request_advice (Alone command) = command_advice command
request_advice (Run turns) = OF_INPUT.now

-- of a command line that was refused
abbrev pub line_advice : LineFault → List ℕ
line_advice Usage = OF_STANDARD_INPUT.now
line_advice Processes = OF_STAMPS.now

abbrev pub advice_on : Asked → List ℕ
advice_on (Ok request) = request_advice request
advice_on (Err fault) = line_advice fault

-- Status 1 and 2 are those of refusals. With any other status nothing is told.
abbrev pub advice : Asked → ℕ → Option (List ℕ)
advice asked status = if status == 1 then Some (advice_on asked) else if status == 2 then Some (advice_on asked) else None

-- where the words couldn't be had, nothing is told
abbrev pub advice_of : Result Words Error → ℕ → Option (List ℕ)
advice_of (Ok words) status = advice (asked_by words) status
advice_of (Err error) status = None

abbrev pub text_of : Option (Bor (List ℕ)) → Option (List ℕ)
text_of told = option_map (λ text. text.now) told
