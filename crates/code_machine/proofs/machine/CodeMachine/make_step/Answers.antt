use Rattle.std.proofs.Common.{◌≡◌, refl, rules}
use Rattle.std.specs.Vec.{with_item}
use Rattle.code_machine.specs.declared.machine.CodeMachine.TheInside.{Inside}
use Rattle.code_machine.specs.Process.{IsOf}
use Rattle.code_machine.proofs.Steps.{Stepped, in_range, held, stepped}
use Rattle.code_machine.proofs.machine.CodeMachine.make_step.Goals as goal

-- the process that steps
own : (c : goal.After-step_one-arg-2-1) → IsOf c.self.inside.code.now c.index_mut-process.result.now × (c.index_mut-process.result.now.me ≡ c.args.p)
own c =
    let m = c.self.inside in
    c.self.invariant.each c.args.p c.index_mut-process.result.now
    (held m.processes.items c.args.p c.index_mut-process.result.now c.index_mut-process.ensures.value (in_range m c.args.self.now c.args.p c.self.view_is c.requires))

pub step_one-requires-clause-of : goal.step_one-requires-clause-of
step_one-requires-clause-of c = (own c).0

pub step_one-requires-clause-me : goal.step_one-requires-clause-me
step_one-requires-clause-me c = (own c).1

abbrev after : goal.After-self-1 → Inside
after c = record {
  code = c.self.inside.code;
  shared = c.step_one.new.shared;
  processes = with_item c.self.inside.processes c.args.p c.step_one.new.process;
  events = c.step_one.new.events;
}

whole : (c : goal.After-self-1) → Stepped (after c) c.args.p c.args.self.now c.step_one.result
whole c =
    let m = c.self.inside in
    stepped m (after c) c.self.invariant c.args.p c.index_mut-process.result.now c.step_one.new.process c.index_mut-process.ensures.value
    (in_range m c.args.self.now c.args.p c.self.view_is c.requires) refl refl c.args.self.now c.self.view_is
    c.step_one.result c.step_one.ensures.instruction c.step_one.ensures.told c.step_one.ensures.ok c.step_one.ensures.err c.step_one.ensures.silent
    c.step_one.ensures.of c.step_one.ensures.me

pub invariant_of-self : goal.invariant_of-self
invariant_of-self c = (whole c).sound

pub returns : goal.returns
returns c =
    let all = whole c in
    record { instruction = all.instruction; told = all.told; ok = all.ok; err = all.err; silent = all.silent; code = search rules; processes = search rules; rows = all.rows }
