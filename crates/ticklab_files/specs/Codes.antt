-- The code of a program, if it isn't too long.
use Rattle.std.specs.Prelude.{◌≡◌, ◌≤◌, ◌<◌, ℕ, Bool, true, List}
use Rattle.code_core.specs.Instructions.{StepCode}
use Rattle.base.specs.Plain.{Name, WholeProgram}
use Rattle.tick_kinds.specs.Resolution.{resolved}
use Rattle.tick_lower.specs.Lowered.{lowered, lowered_length, lowered_sizes}
use Rattle.ticklab_files.specs.Lines.{too_long_line}

abbrev pub program_code : WholeProgram Name → StepCode
program_code a = record { sizes = lowered_sizes (resolved a); instructions = lowered (resolved a) }

abbrev pub HasCode : WholeProgram Name → Type 0
HasCode a = lowered_length (resolved a) ≤ 65535

-- it is too long, and this is told
pub record HasNoCode (name : List ℕ) (a : WholeProgram Name) (report : List ℕ) : Type 0 where
  pub too_long : 65535 < lowered_length (resolved a)
  pub told : report ≡ too_long_line name

-- where the code is asked for
abbrev pub IsCodeless : Bool → List ℕ → WholeProgram Name → List ℕ → Type 0
IsCodeless is_code name a report = (is_code ≡ true) × HasNoCode name a report
