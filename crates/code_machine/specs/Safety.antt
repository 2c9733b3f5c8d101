-- The invariant of a process, and of a state of a run: no step is ever stuck.
use Rattle.std.specs.Prelude.{◌≡◌, ℕ, ◌<◌, ◌≤◌, true, List, length, slice_get, All, Some}
use Rattle.word_core.specs.Stamps.{Labels, stamped}
use Rattle.word_core.specs.Packed.{AreLabels}
use Rattle.word_core.specs.Order.{IsOrdered}
use Rattle.code_core.specs.declared.instr.Instr.{Instr}
use Rattle.code_core.specs.declared.instr.Instr.TheVariants as I
use Rattle.code_core.specs.Instructions.{CodeSizes, pops, fits}
use Rattle.code_core.specs.Heights.{height_at}
use Rattle.code_machine.specs.declared.ask.Ask.{Ask}
use Rattle.code_machine.specs.declared.ask.Ask.TheVariants as Q
use Rattle.code_machine.specs.declared.ask.Reply.{Reply}
use Rattle.code_machine.specs.declared.ask.Reply.TheVariants as R
use Rattle.code_machine.specs.Machine.{CodeProcess, CodeState}

-- labels of `n` processes, in the order of whole numbers
pub record AreOrdered (n : ℕ) (labels : Labels) : Type 0 where
  pub are : AreLabels n labels
  pub ordered : IsOrdered labels

-- Process `p` of a code stands inside it with a stack of the height of its place, a value for each
-- variable, and labels in order in its scans, its scratch and beside it. At an exchange there stands
-- beside the scratch what a stamp makes of it.
pub record IsSafe (sizes : CodeSizes) (code : List Instr) (p : ℕ) (q : CodeProcess) : Type 0 where
  pub inside : q.place < length code
  pub height : length q.stack ≡ height_at code q.place
  pub variables : length q.variables ≡ sizes.variables
  pub scans : length q.scans ≡ sizes.scans
  pub filled : All (AreOrdered sizes.processes) q.scans
  pub scratch : AreOrdered sizes.processes q.scratch
  pub beside : AreOrdered sizes.processes q.beside
  pub next : (l : ℕ) → slice_get code q.place ≡ Some (I.Exchange l) → q.beside ≡ stamped p q.scratch

-- and the instruction at its place finds its operands and its slots
pub record NeverStuck (sizes : CodeSizes) (code : List Instr) (p : ℕ) (q : CodeProcess) : Type 0 where
  pub safe : IsSafe sizes code p q
  pub operands : (i : Instr) → slice_get code q.place ≡ Some i → pops i ≤ length q.stack
  pub slots : (i : Instr) → slice_get code q.place ≡ Some i → fits sizes i ≡ true

-- in a state of all processes
pub record AllSafe (sizes : CodeSizes) (code : List Instr) (s : CodeState) : Type 0 where
  pub labels : AreOrdered sizes.processes s.labels
  pub rows : length s.rows ≡ sizes.rows
  pub registers : All (λ row. length row ≡ sizes.processes) s.rows
  pub many : length s.processes ≡ sizes.processes
  pub each : (p : ℕ) (q : CodeProcess) → slice_get s.processes p ≡ Some q → IsSafe sizes code p q

-- labels in a reply are in order
abbrev pub HasWord : ℕ → Reply → Type 0
HasWord n (R.Word labels) = AreOrdered n labels
HasWord n _ = Unit {0}

-- What process `p` may ask for: an exchange is of labels in order for what its stamp makes of them,
-- and there is the register that it asks for.
abbrev pub IsLawful : CodeSizes → ℕ → Ask → Type 0
IsLawful sizes p (Q.Exchange old new) = AreOrdered sizes.processes old × (new ≡ stamped p old)
IsLawful sizes p (Q.Get r i) = (r < sizes.rows) × (i < sizes.processes)
IsLawful sizes p (Q.Put r v) = r < sizes.rows
IsLawful sizes p _ = Unit {0}
