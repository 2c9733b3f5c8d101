-- Each command line except a run on threads has exactly one answer on each input. A run on threads has the
-- answers of runs of its code, or one refusal; if its input is a program, these answers are outcomes of the
-- program. A program and its code report the same, under schedules that the commands print.
use Rattle.std.specs.Prelude.{◌≡◌, ◌↔◌, ℕ, ◌≤◌, ◌++◌, false, List, [], length}
use Rattle.base.specs.Lines.{line_end}
use Rattle.base.specs.Plain.{Name, WholeProgram}
use Rattle.code_core.specs.Instructions.{StepCode}
use Rattle.language_schedules.specs.Written.{schedule_text}
use Rattle.tick_syntax.specs.RoundTrip.{IsTextOf}
use Rattle.ticketc_line.specs.Asked.{Asked}
use Rattle.ticketc_line.specs.declared.command.Command.TheVariants.{Source, Code, Lift, Drop}
use Rattle.ticketc_line.specs.declared.command.Request.TheVariants.{Run}
use Rattle.ticketc_answers.specs.Answer.{Answer, done}
use Rattle.ticketc_answers.specs.Codes.{IsCodeOf}
use Rattle.ticketc_answers.specs.Commands.{Answers, CommandAnswers, InputAnswers, asks_run}
use Rattle.ticketc_answers.specs.Maps.{schedule_line}
use Rattle.ticketc_answers.specs.Runs.{IsOutcomeOf, IsProgramOutcome}

-- What a run shows may be one of many things, by how its threads go on; all other answers are determined.
abbrev pub AtMostOneAnswerLaw : Type 0
AtMostOneAnswerLaw =
    (asked : Asked) (input : List ℕ) (a b : Answer) → asks_run asked ≡ false → Answers asked input a → Answers asked input b → a ≡ b

abbrev pub SomeAnswerLaw : Type 0
SomeAnswerLaw = (asked : Asked) (input : List ℕ) → asks_run asked ≡ false → (a : Answer) × Answers asked input a

-- Where the input has a code, a run is answered by what runs of that code let others see, and by nothing else.
abbrev pub RunOutcomeLaw : Type 0
RunOutcomeLaw =
    (turns : ℕ) (input : List ℕ) (c : StepCode) (a : Answer) → IsCodeOf input c
    → InputAnswers (Run turns) input a ↔ IsOutcomeOf turns c a

-- Where it has none, a run is answered as `code` refuses the input under the empty schedule, and by nothing else.
abbrev pub RunRefusalLaw : Type 0
RunRefusalLaw =
    (turns : ℕ) (input : List ℕ) (a : Answer) → ((c : StepCode) → IsCodeOf input c → ⊥)
    → InputAnswers (Run turns) input a ↔ (CommandAnswers (Code []) input a × (a.status ≡ 1))

-- Where the input is a program, what a run is answered, if it is no refusal, is an outcome of that program on whole-number
-- tickets, under one schedule.
abbrev pub RunProgramLaw : Type 0
RunProgramLaw =
    (turns : ℕ) (input : List ℕ) (p : WholeProgram Name) (a : Answer)
    → IsTextOf input p → InputAnswers (Run turns) input a → a.status ≡ 0 → IsProgramOutcome p turns a

-- Where `code` reports on a program, `drop` prints a line, and `source` reports the same under it.
abbrev pub DropLaw : Type 0
DropLaw = (schedule input : List ℕ) (p : WholeProgram Name) (reported : Answer) → IsTextOf input p
    → CommandAnswers (Code schedule) input reported → reported.status ≡ 0
    → (line : List ℕ) × CommandAnswers (Drop schedule) input (done (line ++ line_end)) × CommandAnswers (Source line) input reported

-- Where `source` reports, and `lift` prints a line, that is of some steps; and `code` reports the same
-- under it, where they are no more than a schedule can have.
abbrev pub LiftLaw : Type 0
LiftLaw = (schedule input : List ℕ) (reported lifted : Answer)
    → CommandAnswers (Source schedule) input reported → reported.status ≡ 0
    → CommandAnswers (Lift schedule) input lifted → lifted.status ≡ 0
    → (steps : List ℕ) × (lifted ≡ done (schedule_line steps))
    × (length steps ≤ 10000000 → CommandAnswers (Code (schedule_text steps)) input reported)
