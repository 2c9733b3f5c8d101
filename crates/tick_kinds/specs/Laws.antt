-- What holds of every program.
use Rattle.std.specs.Prelude.{◌≡◌, ◌↔◌, None, length}
use Rattle.base.specs.Plain.{Name, WholeProgram}
use Rattle.tick_kinds.specs.Accepted.{IsAccepted}
use Rattle.tick_kinds.specs.Refusals.{first_refusal}
use Rattle.tick_kinds.specs.Resolution.{resolved}
use Rattle.tick_kinds.specs.Uses.{IsWithin}

-- a program is accepted exactly where nothing refuses it
abbrev pub AcceptanceLaw : Type 0
AcceptanceLaw = (p : WholeProgram Name) → IsAccepted p ↔ (first_refusal p ≡ None)

-- an accepted program names nothing past what it declares
abbrev pub WithinLaw : Type 0
WithinLaw = (p : WholeProgram Name) → IsAccepted p → IsWithin (length p.variables) (length p.scans) (length p.registers) (resolved p).body
