use Rattle.std.proofs.Common.{◌∙◌, ap, sym, subst, arith}
use Rattle.code_machine.specs.Process.{after_advance}
use Rattle.code_machine.specs.prover.Held.{does_of, Becomes}
use Rattle.code_machine.proofs.Found.{found, scan_count}
use Rattle.code_machine.proofs.proc.Proc.perform.Goals as goal

pub push-requires-clause-room : goal.push-requires-clause-room
push-requires-clause-room c = omega (arith, (found c.requires.of c.requires.here c.in-Push.is).room)

pub push-requires-in-Me-clause-room : goal.push-requires-in-Me-clause-room
push-requires-in-Me-clause-room c = omega (arith, (found c.requires.of c.requires.here c.in-Me.is).room)

pub push-requires-in-Count-clause-room : goal.push-requires-in-Count-clause-room
push-requires-in-Count-clause-room c = omega (arith, (found c.requires.of c.requires.here c.in-Count.is).room)

pub compare-requires-clause-labels : goal.compare-requires-clause-labels
compare-requires-clause-labels c =
    scan_count c.requires.of c.in-Older.s _ (found c.requires.of c.requires.here c.in-Older.is).slots.0
    (c.processes-in-Older.ensures.count ∙ ap (λ sizes. sizes.processes) c.sizes-in-Older.ensures.sizes)

pub look_for-requires-clause-labels : goal.look_for-requires-clause-labels
look_for-requires-clause-labels c =
    scan_count c.requires.of c.in-Held.s _ (found c.requires.of c.requires.here c.in-Held.is).slots.0
    (c.processes-in-Held.ensures.count ∙ ap (λ sizes. sizes.processes) c.sizes-in-Held.ensures.sizes)

pub returns-in-Copy-clause-becomes : goal.returns-in-Copy-clause-becomes
returns-in-Copy-clause-becomes c =
    let one = c.args.self.now in
    subst (λ i. Becomes one (after_advance one.process (does_of c.args.code.now one i)) c.copy.new.self)
    (sym c.in-Copy.is) (c.copy.ensures.becomes c.args.code.now.sizes.processes)
