use Rattle.std.proofs.Common.{◌≡◌, map}
use Rattle.tick_kinds.proofs.Declaring.{from}
use Rattle.tick_kinds.proofs.names.Names.declare_all.Given as goal
use Rattle.tick_kinds.specs.prover.Checked.{checked_declarations}
use Rattle.tick_kinds.specs.Declarations.{numbered}
use Rattle.tick_kinds.specs.prover.Table.{slot_at}
use Rattle.base.specs.Plain.{name_of}

abbrev pub invariant-loop-number : goal.invariant-loop-number
invariant-loop-number l =
    checked_declarations (numbered l.kind (map name_of l.section) 0) (slot_at l.initial.self.slots)
    ≡ checked_declarations (from l.kind l.section l.number) (slot_at l.self.slots)
