-- The machine of a code, as `drop` and `lift` let it step.
use Rattle.std.specs.Prelude.{◌≡◌, ℕ, Bool, ◌||◌, List}
use Rattle.code_core.specs.declared.instr.Instr.{Instr}
use Rattle.code_core.specs.declared.instr.Instr.TheVariants as I
use Rattle.code_core.specs.Verified.{IsVerified}
use Rattle.code_machine.specs.Machine.{CodeRun, run_of}
use Rattle.tick_lower.specs.Commits.{ends_step}

-- a state of a run of its code, which is verified
pub record IsReached (m : CodeRun) : Type 0 where
  pub verified : IsVerified m.code.sizes m.code.instructions
  pub schedule : List ℕ
  pub state : m.state ≡ run_of m.code.sizes m.code.instructions schedule

-- where a step of the program ends, told by whether others see the step of the code
abbrev pub ends_told : Instr → Bool → Bool
ends_told (I.Exchange l) tells = tells
ends_told i tells = tells || ends_step i
