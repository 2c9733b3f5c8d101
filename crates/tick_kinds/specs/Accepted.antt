-- Which programs are accepted.
use Rattle.std.specs.Prelude.{ℕ, ◌≤◌, ◌≢◌, List, map, length, All, Contains}
use Rattle.std.specs.List.{AllPairs}
use Rattle.tick_kinds.specs.Declarations.{declarations, section}
use Rattle.tick_kinds.specs.Uses.{Use, block_uses}
use Rattle.base.specs.Plain.{Name, WholeProgram}

-- the letters of names
abbrev pub letters_of : List Name → List (List ℕ)
letters_of names = map (λ x. x.letters) names

-- the name is declared in the section that its place wants
abbrev pub IsDeclared : WholeProgram Name → Use → Type 0
IsDeclared p u = Contains (letters_of (section p u.wanted)) u.name.letters

-- 1 to 6 processes, every name declared once, at most 64 variables, 16 scans and 8 register rows, and
-- every name that is used declared as what its place wants
pub record IsAccepted (p : WholeProgram Name) : Type 0 where
  pub some_process : 1 ≤ p.processes
  pub processes : p.processes ≤ 6
  pub once : AllPairs (λ x y. x ≢ y) (map (λ d. d.name.letters) (declarations p))
  pub variables : length p.variables ≤ 64
  pub scans : length p.scans ≤ 16
  pub registers : length p.registers ≤ 8
  pub uses : All (IsDeclared p) (block_uses p.body)
