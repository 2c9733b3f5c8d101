use Rattle.std.proofs.Common.{◌≡◌, map}
use Rattle.tick_kinds.proofs.Declaring.{from}
use Rattle.tick_kinds.proofs.program.slot_of.Given as goal
use Rattle.tick_kinds.specs.Declarations.{numbered, slot_in}
use Rattle.base.specs.Plain.{name_of}

abbrev pub invariant-loop-number : goal.invariant-loop-number
invariant-loop-number l =
    slot_in (numbered l.kind (map name_of l.section) 0) l.name ≡ slot_in (from l.kind l.section l.number) l.name
