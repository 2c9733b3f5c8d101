-- Where a step of the program ends.
use Rattle.std.specs.Prelude.{ℕ, Bool, true, false, List, slice_get, Option, Some, None}
use Rattle.code_core.specs.declared.instr.Instr.{Instr}
use Rattle.code_core.specs.declared.instr.Instr.TheVariants as I

-- The instructions that end a step of the program: an exchange does where it succeeds. The others end
-- one only where they trap.
abbrev pub ends_step : Instr → Bool
ends_step (I.Store x) = true
ends_step (I.Get r x) = true
ends_step (I.Put r) = true
ends_step (I.Exchange l) = true
ends_step I.Clear = true
ends_step (I.Scan s) = true
ends_step (I.Copy s t) = true
ends_step (I.Older s x) = true
ends_step (I.Held s x) = true
ends_step I.Out = true
ends_step (I.JumpZero l) = true
ends_step I.Halt = true
ends_step _ = false

abbrev pub ends_at : Option Instr → Bool
ends_at None = false
ends_at (Some i) = ends_step i

abbrev pub commits : List Instr → ℕ → Bool
commits code place = ends_at (slice_get code place)
