-- What holds of the code of every program.
use Rattle.std.specs.Prelude.{◌≡◌, ℕ, ◌≤◌, length}
use Rattle.code_core.specs.Verified.{IsVerified}
use Rattle.tick_kinds.specs.Accepted.{IsAccepted}
use Rattle.tick_kinds.specs.Resolution.{resolved}
use Rattle.tick_kinds.specs.Within.{IsWithin}
use Rattle.base.specs.Plain.{Name, WholeProgram}
use Rattle.tick_lower.specs.Lowered.{lowered, lowered_length, lowered_sizes}

-- It is as long as `lowered_length` says.
abbrev pub LengthLaw : Type 0
LengthLaw = (p : WholeProgram ℕ) → length (lowered p) ≡ lowered_length p

-- It has no fault, where it is not too long and the program names nothing past what it declares.
abbrev pub VerifiedLaw : Type 0
VerifiedLaw = (p : WholeProgram ℕ) → IsWithin (length p.variables) (length p.scans) (length p.registers) p.body
    → lowered_length p ≤ 65535 → IsVerified (lowered_sizes p) (lowered p)

-- So it has none where the program is accepted.
abbrev pub AcceptedLaw : Type 0
AcceptedLaw = (p : WholeProgram Name) → IsAccepted p → lowered_length (resolved p) ≤ 65535
    → IsVerified (lowered_sizes (resolved p)) (lowered (resolved p))
