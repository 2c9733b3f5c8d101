-- What the commands on a code, and on the code of a program, answer.
use Rattle.std.specs.Prelude.{◌≡◌, ℕ, ◌≤◌, ◌<◌, List}
use Rattle.base.specs.Plain.{Name, WholeProgram}
use Rattle.code_core.specs.Instructions.{StepCode}
use Rattle.code_text.specs.CodeText.{code_text}
use Rattle.language_schedules.specs.Schedule.{schedule_of}
use Rattle.tick_kinds.specs.Resolution.{resolved}
use Rattle.tick_lower.specs.Lowered.{lowered, lowered_length, lowered_sizes}
use Rattle.tick_play.specs.Report.{code_report}
use Rattle.ticketc_refusals.specs.Refusals.{BeginsCode, CodeIn, IsCodeRefused, IsProgram, IsProgramRefused}
use Rattle.ticketc_answers.specs.Answer.{Answer, done, scheduled, too_long}
use Rattle.ticketc_answers.specs.Inputs.{Answered, Refuses}

-- the code that a program becomes
abbrev pub code_of : WholeProgram Name → StepCode
code_of p = record { sizes = lowered_sizes (resolved p); instructions = lowered (resolved p) }

-- the input is an accepted program, and this is its code, of at most 65,535 instructions
pub record IsLowered (input : List ℕ) (c : StepCode) : Type 0 where
  pub program : IsProgram input
  pub fits : lowered_length (resolved program.program) ≤ 65535
  pub code : c ≡ code_of program.program

-- it is no accepted program, or one whose code is too long
pub data IsNotLowered (input : List ℕ) (a : Answer) : Type 0 where
  no_program : Refuses (IsProgramRefused input) a → IsNotLowered input a
  long_code : (is : IsProgram input) → 65535 < lowered_length (resolved is.program) → a ≡ too_long → IsNotLowered input a

-- for the code of a program
abbrev pub OnLowered : (StepCode → Answer → Type 0) → List ℕ → Answer → Type 0
OnLowered by input = Answered (IsLowered input) (IsNotLowered input) by

-- What begins as codes do is taken for a code, and all else for a program, which has a code.
pub data IsCodeOf (input : List ℕ) (c : StepCode) : Type 0 where
  is_code : BeginsCode input → CodeIn input c → IsCodeOf input c
  is_lowered : (BeginsCode input → ⊥) → IsLowered input c → IsCodeOf input c

pub data IsNoCode (input : List ℕ) (a : Answer) : Type 0 where
  no_code : BeginsCode input → Refuses (IsCodeRefused input) a → IsNoCode input a
  not_lowered : (BeginsCode input → ⊥) → IsNotLowered input a → IsNoCode input a

-- for a code, or for the code of a program
abbrev pub OnCode : (StepCode → Answer → Type 0) → List ℕ → Answer → Type 0
OnCode by input = Answered (IsCodeOf input) (IsNoCode input) by

abbrev pub emit_answer : StepCode → Answer
emit_answer c = done (code_text c)

-- `code` with the text of a schedule
abbrev pub code_answer : List ℕ → StepCode → Answer
code_answer schedule c = scheduled (code_report c) (schedule_of c.sizes.processes schedule)
