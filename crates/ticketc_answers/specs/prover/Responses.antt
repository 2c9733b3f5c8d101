-- When responses, and what stops a command, are what the definitions say.
use Rattle.std.specs.Prelude.{◌≡◌, ℕ, Bool, true, List, Result, Ok, Err, string_bytes}
use Rattle.ticketc_line.specs.Asked.{PlainRequest}
use Rattle.ticketc_answers.specs.Answer.{Answer, refused, too_long}
use Rattle.ticketc_answers.specs.Commands.{InputAnswers, is_run}
use Rattle.ticketc_answers.specs.declared.fault.EngineFault.{EngineFault}
use Rattle.ticketc_answers.specs.declared.fault.EngineFault.TheVariants as fault
use Rattle.ticketc_answers.specs.declared.response.StatusText.{StatusText}
use Rattle.ticketc_answers.specs.declared.stop.Stop.{Stop}
use Rattle.ticketc_answers.specs.declared.stop.Stop.TheVariants.{Refused, TooLong, Memory, Thread}

-- the response is this answer
pub record Says (response : StatusText) (a : Answer) : Type 0 where
  pub status : response.status ≡ a.status
  pub text : string_bytes response.text ≡ a.text

-- the response is an answer of these
pub record IsResponse (allowed : Answer → Type 0) (response : StatusText) : Type 0 where
  pub answer : Answer
  pub is_allowed : allowed answer
  pub says : Says response answer

-- what can keep a command from its response: want of memory, or of a thread for a run
abbrev pub IsUnanswered : Bool → EngineFault → Type 0
IsUnanswered run fault.Memory = Unit {0}
IsUnanswered run fault.Thread = run ≡ true
IsUnanswered run other = ⊥

abbrev pub IsAnswered : PlainRequest → List ℕ → Result StatusText EngineFault → Type 0
IsAnswered request input (Ok response) = IsResponse (InputAnswers request input) response
IsAnswered request input (Err fault) = IsUnanswered (is_run request) fault

-- the response to what stops a command
abbrev pub SaysStop : StatusText → Stop → Type 0
SaysStop response (Refused refusal) = Says response (refused refusal)
SaysStop response TooLong = Says response too_long
SaysStop response Memory = ⊥
SaysStop response Thread = ⊥

-- what keeps that response away
abbrev pub IsFaultOf : Stop → EngineFault → Type 0
IsFaultOf stop fault.Memory = Unit {0}
IsFaultOf stop fault.Thread = stop ≡ Thread
IsFaultOf stop other = ⊥
