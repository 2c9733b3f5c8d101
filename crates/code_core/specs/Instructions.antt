-- The instructions of a step code: what each takes from the stack and puts on it, where it goes, and
-- which slots there are.
use Rattle.std.specs.Prelude.{ℕ, ◌+◌, ◌-◌, ◌≤◌, nat_lt, Bool, true, false, ◌&&◌, List, Option, Some, None}
use Rattle.code_core.specs.declared.instr.Instr.{Instr}
use Rattle.code_core.specs.declared.instr.Instr.TheVariants as I

-- how many processes there are, and how many variables, scans and register rows
pub record CodeSizes : Type 0 where
  pub processes : ℕ
  pub variables : ℕ
  pub scans : ℕ
  pub rows : ℕ

abbrev pub sizes : ℕ → ℕ → ℕ → ℕ → CodeSizes
sizes processes variables scans rows = record { processes = processes; variables = variables; scans = scans; rows = rows }

pub record AreSizes (z : CodeSizes) : Type 0 where
  pub at_least_one : 1 ≤ z.processes
  pub at_most_six : z.processes ≤ 6
  pub variables : z.variables ≤ 64
  pub scans : z.scans ≤ 16
  pub rows : z.rows ≤ 8

-- how many values it takes from the stack
abbrev pub pops : Instr → ℕ
pops (I.Bin op) = 2
pops (I.Store x) = 1
pops (I.Get r x) = 1
pops (I.Put r) = 1
pops (I.Older s x) = 2
pops (I.Held s x) = 1
pops I.Out = 1
pops (I.JumpZero l) = 1
pops _ = 0

-- how many values it then puts on it
abbrev pub pushes : Instr → ℕ
pushes (I.Push v) = 1
pushes (I.Load x) = 1
pushes I.Me = 1
pushes I.Count = 1
pushes (I.Bin op) = 1
pushes _ = 0

-- the height that it leaves of a stack of height `h`
abbrev pub left : Instr → ℕ → ℕ
left i h = h - pops i + pushes i

-- the place to which it may jump
abbrev pub target : Instr → Option ℕ
target (I.JumpZero l) = Some l
target (I.Jump l) = Some l
target _ = None

-- whether the instruction after it may come next
abbrev pub goes_on : Instr → Bool
goes_on (I.Jump l) = false
goes_on I.Halt = false
goes_on _ = true

-- whether there are the slots that it names
abbrev pub fits : CodeSizes → Instr → Bool
fits z (I.Load x) = nat_lt x z.variables
fits z (I.Store x) = nat_lt x z.variables
fits z (I.Get r x) = nat_lt r z.rows && nat_lt x z.variables
fits z (I.Put r) = nat_lt r z.rows
fits z (I.Scan s) = nat_lt s z.scans
fits z (I.Copy s t) = nat_lt s z.scans && nat_lt t z.scans
fits z (I.Older s x) = nat_lt s z.scans && nat_lt x z.variables
fits z (I.Held s x) = nat_lt s z.scans && nat_lt x z.variables
fits z _ = true

-- a list of instructions with its sizes
pub record StepCode : Type 0 where
  pub sizes : CodeSizes
  pub instructions : List Instr
