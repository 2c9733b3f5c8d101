use Rattle.std.proofs.Common.{arith}
use Rattle.tick_kinds.proofs.Counting.{most_variables, most_scans, most_registers, is_variable, is_scan, is_register}
use Rattle.tick_kinds.proofs.program.Program.kind.Goals as goal

pub slot_of-requires : goal.slot_of-requires
slot_of-requires c = omega (arith, c.deref.ensures.len, most_variables c.self.inside.tree _ c.self.invariant)

pub slot_of-requires-2 : goal.slot_of-requires-2
slot_of-requires-2 c = omega (arith, c.deref-2.ensures.len, most_scans c.self.inside.tree _ c.self.invariant)

pub slot_of-requires-3 : goal.slot_of-requires-3
slot_of-requires-3 c = omega (arith, c.deref-3.ensures.len, most_registers c.self.inside.tree _ c.self.invariant)

pub returns-in-Some : goal.returns-in-Some
returns-in-Some c =
    is_variable c.self.inside.tree c.args.self.now c.self.view_is c.args.name.now _ _ c.deref.ensures.value c.slot_of.ensures _ c.in-Some.is

pub returns-in-Some-slot_of : goal.returns-in-Some-slot_of
returns-in-Some-slot_of c =
    is_scan c.self.inside.tree c.args.self.now c.self.view_is c.args.name.now _ _ c.deref.ensures.value c.slot_of.ensures
    c.in_default.is _ _ c.deref-2.ensures.value c.slot_of-2.ensures _ c.in-Some-slot_of.is

pub returns : goal.returns
returns c =
    is_register c.self.inside.tree c.args.self.now c.self.view_is c.args.name.now _ _ c.deref.ensures.value c.slot_of.ensures
    c.in_default.is _ _ c.deref-2.ensures.value c.slot_of-2.ensures c.in_default-slot_of.is _ _ c.deref-3.ensures.value c.slot_of-3.ensures
