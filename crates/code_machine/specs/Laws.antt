-- What holds of every run of every verified code.
use Rattle.std.specs.Prelude.{◌≡◌, ℕ, List, slice_get, Some}
use Rattle.code_core.specs.declared.instr.Instr.{Instr}
use Rattle.code_core.specs.Instructions.{CodeSizes}
use Rattle.code_core.specs.Verified.{IsVerified}
use Rattle.code_machine.specs.Machine.{CodeProcess, run_of}
use Rattle.code_machine.specs.Safety.{AllSafe, NeverStuck}

-- after every schedule the state is safe, and each process finds what its next instruction needs
pub record IsNeverStuck (sizes : CodeSizes) (code : List Instr) (schedule : List ℕ) : Type 0 where
  pub safe : AllSafe sizes code (run_of sizes code schedule)
  pub each : (p : ℕ) (q : CodeProcess) → slice_get (run_of sizes code schedule).processes p ≡ Some q → NeverStuck sizes code p q

abbrev pub NeverStuckLaw : Type 0
NeverStuckLaw = (sizes : CodeSizes) (code : List Instr) → IsVerified sizes code → (schedule : List ℕ) → IsNeverStuck sizes code schedule
