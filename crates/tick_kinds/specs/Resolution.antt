-- A program with each name replaced by its number in the section that declares it.
use Rattle.std.specs.Prelude.{ℕ, List, map, Option, Some, None}
use Rattle.tick_kinds.specs.Declarations.{Slot, declarations, slot_in}
use Rattle.base.specs.Plain.{Name, WholeProgram, map_block}

-- 0 for a name that is not declared, which no accepted program uses
abbrev pub number_by : Option Slot → ℕ
number_by None = 0
number_by (Some slot) = slot.1

abbrev pub slot_number : (List ℕ → Option Slot) → Name → ℕ
slot_number look x = number_by (look x.letters)

abbrev pub resolved : WholeProgram Name → WholeProgram ℕ
resolved p = let number = slot_number (slot_in (declarations p)) in record {
  processes = p.processes;
  span = p.span;
  variables = map number p.variables;
  scans = map number p.scans;
  registers = map number p.registers;
  body = map_block number p.body;
}
