use Rattle.std.proofs.Common.{◌<◌, length, arith}
use Rattle.tick_kinds.specs.Resolution.{resolved}
use Rattle.searches_explore.specs.Lines.{lines_of}
use Rattle.searches_hunt.specs.prover.Parts.{IsFaultOf}
use Rattle.searches_hunt.proofs.Left.{fault_left, fault_of_left, left_lawful, left_short}
use Rattle.searches_hunt.proofs.shrinking.Shrinker.fewer.Goals as goal

pub to_fault-requires : goal.to_fault-requires
to_fault-requires c =
    let a = resolved c.args.self.now.program.now in
    left_lawful (λ p. p < a.processes) c.args.rest.now c.args.schedule.now c.requires.left c.requires.fault.lawful

pub returns-clause-fault : goal.returns-clause-fault
returns-clause-fault c =
    let a = resolved c.args.self.now.program.now in
    let lines = lines_of c.args.self.now.lines.now in
    let schedule = c.args.schedule.now in
    fault_left a lines c.args.rest.now c.to_fault.result (λ made. IsFaultOf a lines schedule made.items)
    (λ made of_rest. fault_of_left a lines schedule c.args.rest.now made.items c.requires.left of_rest) c.to_fault.ensures

pub returns-clause-fewer : goal.returns-clause-fewer
returns-clause-fewer c =
    fault_left (resolved c.args.self.now.program.now) (lines_of c.args.self.now.lines.now) c.args.rest.now c.to_fault.result (λ made. length made.items < length c.args.schedule.now)
    (λ made of_rest. omega (arith, left_short made.items c.args.rest.now of_rest.left, c.if-rest-schedule.false)) c.to_fault.ensures
