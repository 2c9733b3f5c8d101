-- What a program declares: each name with its kind, and its number in the section of that kind.
use Rattle.std.specs.Prelude.{ℕ, ◌+◌, List, [], ◌∷◌, ◌++◌, Option, Some, None, if◌then◌else◌}
use Rattle.std.specs.Str.{bytes_eq}
use Rattle.tick_kinds.specs.declared.kind.Kind.{Kind}
use Rattle.tick_kinds.specs.declared.kind.Kind.TheVariants as K
use Rattle.base.specs.Plain.{Name, WholeProgram}

-- what a name stands for
abbrev pub Slot : Type 0
Slot = Kind × ℕ

pub record Declaration : Type 0 where
  pub name : Name
  pub slot : Slot

-- the names of one section, numbered from k on
abbrev pub numbered : Kind → List Name → ℕ → List Declaration
numbered kind [] k = []
numbered kind (x ∷ xs) k = record { name = x; slot = (kind, k) } ∷ numbered kind xs (k + 1)

-- all that is declared, in order of the text
abbrev pub declarations : WholeProgram Name → List Declaration
declarations p = numbered K.Variable p.variables 0 ++ (numbered K.Scan p.scans 0 ++ numbered K.Register p.registers 0)

-- what the first declaration of these letters says
abbrev pub slot_in : List Declaration → List ℕ → Option Slot
slot_in [] letters = None
slot_in (d ∷ ds) letters = if bytes_eq letters d.name.letters then Some d.slot else slot_in ds letters

-- how many names of each kind there may be
abbrev pub limit : Kind → ℕ
limit K.Variable = 64
limit K.Scan = 16
limit K.Register = 8

-- the section of a kind
abbrev pub section : {A : Type 0} → WholeProgram A → Kind → List A
section p K.Variable = p.variables
section p K.Scan = p.scans
section p K.Register = p.registers
