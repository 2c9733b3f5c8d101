-- Which refusal an input has, by the definitions of the crates that refuse it.
use Rattle.std.specs.Prelude.{◌≡◌, ◌<◌, ◌≤◌, ◌++◌, ℕ, List, length, codes, Some, Ok, Err}
use Rattle.std.specs.Str.{IsUtf8}
use Rattle.std.specs.Str.Lossy.{utf8_valid_len}
use Rattle.code_core.specs.Instructions.{StepCode}
use Rattle.code_core.specs.declared.fault.CodeFault.{CodeFault}
use Rattle.code_text.specs.CodeText.{ReadsAs}
use Rattle.tick_kinds.specs.Accepted.{IsAccepted}
use Rattle.tick_kinds.specs.Refusals.{first_refusal}
use Rattle.tick_kinds.specs.declared.fault.KindFault.{KindFault}
use Rattle.language_schedules.specs.Schedule.{schedule_of}
use Rattle.language_schedules.specs.declared.schedule.ScheduleFault.{ScheduleFault}
use Rattle.tick_syntax.specs.Grammar.{nesting}
use Rattle.base.specs.Plain.{Name, WholeProgram}
use Rattle.tick_syntax.specs.Refusal.{IsTextRefused}
use Rattle.tick_syntax.specs.RoundTrip.{IsTextOf}
use Rattle.tick_syntax.specs.Spelling.{Spells}
use Rattle.tick_syntax.specs.declared.fault.TextFault.{TextFault}
use Rattle.tick_syntax.specs.declared.fault.TextFault.TheVariants.{TextTooLong, BadCharacter}
use Rattle.ticketc_refusals.specs.declared.refusal.Refusal.{Refusal}
use Rattle.ticketc_refusals.specs.declared.refusal.Refusal.TheVariants.{Text, Kinds, Code, Schedule}
use Rattle.ticketc_refusals.specs.declared.spelled_program.SpelledProgram.{SpelledProgram}

-- an input that is UTF-8 and not too long
pub record IsText (input : List ℕ) : Type 0 where
  pub short : length input ≤ 1000000
  pub utf8 : IsUtf8 input

-- an accepted program
pub record IsProgram (input : List ℕ) : Type 0 where
  pub text : IsText input
  pub program : WholeProgram Name
  pub is_text : IsTextOf input program
  pub shallow : nesting program ≤ 64
  pub accepted : IsAccepted program

-- a verified code
pub record IsCode (input : List ℕ) : Type 0 where
  pub text : IsText input
  pub code : StepCode
  pub reads : ReadsAs input (Ok code)

-- the text, the program and the code that an input is
abbrev pub TextIn : List ℕ → List ℕ → Type 0
TextIn input text = IsText input × (text ≡ input)

abbrev pub ProgramIn : List ℕ → WholeProgram Name → Type 0
ProgramIn input program = (is : IsProgram input) × (program ≡ is.program)

abbrev pub CodeIn : List ℕ → StepCode → Type 0
CodeIn input code = (is : IsCode input) × (code ≡ is.code)

-- the program that an input is, with the tokens that spell the input
abbrev pub SpelledIn : List ℕ → SpelledProgram → Type 0
SpelledIn input spelled = ProgramIn input spelled.program × Spells input spelled.tokens.items

-- it is no text: its length is told before its bytes
pub data IsNoText (input : List ℕ) (refusal : Refusal) : Type 0 where
  too_long : 1000000 < length input → refusal ≡ Text TextTooLong → IsNoText input refusal
  not_utf8 : length input ≤ 1000000 → (IsUtf8 input → ⊥) → refusal ≡ Text (BadCharacter (utf8_valid_len input)) → IsNoText input refusal

-- it is no accepted program, and this is told
pub data IsProgramRefused (input : List ℕ) (refusal : Refusal) : Type 0 where
  unread_program : IsNoText input refusal → IsProgramRefused input refusal
  no_program : (fault : TextFault) → IsText input → IsTextRefused input fault → refusal ≡ Text fault → IsProgramRefused input refusal
  not_accepted : (p : WholeProgram Name) (fault : KindFault) → IsText input → IsTextOf input p → nesting p ≤ 64
      → first_refusal p ≡ Some fault → refusal ≡ Kinds fault → IsProgramRefused input refusal

-- it is no verified code, and this is told
pub data IsCodeRefused (input : List ℕ) (refusal : Refusal) : Type 0 where
  unread_code : IsNoText input refusal → IsCodeRefused input refusal
  no_code : (fault : CodeFault) → IsText input → ReadsAs input (Err fault) → refusal ≡ Code fault → IsCodeRefused input refusal

-- it is no schedule of so many processes, and this is told
pub data IsScheduleRefused (n : ℕ) (text : List ℕ) (refusal : Refusal) : Type 0 where
  no_schedule : (fault : ScheduleFault) → schedule_of n text ≡ Err fault → refusal ≡ Schedule fault → IsScheduleRefused n text refusal

-- the input begins as codes do
abbrev pub BeginsCode : List ℕ → Type 0
BeginsCode input = (more : List ℕ) × (codes "tickcode " ++ more ≡ input)

-- what begins as codes do is taken for one, and all else for a program
pub data IsTakenInput (input : List ℕ) : Type 0 where
  code_taken : BeginsCode input → IsCode input → IsTakenInput input
  program_taken : (BeginsCode input → ⊥) → IsProgram input → IsTakenInput input

pub data IsInputRefused (input : List ℕ) (refusal : Refusal) : Type 0 where
  code_refused : BeginsCode input → IsCodeRefused input refusal → IsInputRefused input refusal
  program_refused : (BeginsCode input → ⊥) → IsProgramRefused input refusal → IsInputRefused input refusal
