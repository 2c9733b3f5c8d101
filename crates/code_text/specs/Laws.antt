-- What holds of all codes and all texts.
use Rattle.std.specs.Prelude.{◌≡◌, ℕ, List, Result, Ok}
use Rattle.code_core.specs.declared.fault.CodeFault.{CodeFault}
use Rattle.code_core.specs.Instructions.{AreSizes, StepCode}
use Rattle.code_core.specs.Verified.{IsVerified}
use Rattle.code_text.specs.CodeText.{code_text, AllMayStand, ReadsAs}

-- a text is read as one code at most, or has one fault
abbrev pub OneReadingLaw : Type 0
OneReadingLaw = (text : List ℕ) (r s : Result StepCode CodeFault) → ReadsAs text r → ReadsAs text s → r ≡ s

-- each text is read as some code, or has some fault
abbrev pub SomeReadingLaw : Type 0
SomeReadingLaw = (text : List ℕ) → (r : Result StepCode CodeFault) × ReadsAs text r

-- a verified code that was written is read as itself
abbrev pub RoundTripLaw : Type 0
RoundTripLaw = (c : StepCode) → AreSizes c.sizes → AllMayStand 2 c.instructions → IsVerified c.sizes c.instructions → ReadsAs (code_text c) (Ok c)
