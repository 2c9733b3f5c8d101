use Rattle.std.proofs.Common.{subst, sym, refl, length}
use Rattle.std.specs.Vec.{with_item}
use Rattle.tick_source.proofs.StandsFor.{in_range, ticketed_step, step_ok, step_err, step_stopped, quiet_first, large_after}
use Rattle.tick_source.proofs.Steps.{IsAsLarge, step_as_large}
use Rattle.tick_source.proofs.machine.SourceMachine.step.Goals as goal

pub invariant_of-self : goal.invariant_of-self
invariant_of-self c =
    let m = c.self.inside in
    ticketed_step m (record { shared = c.step.new.shared; processes = with_item m.processes c.args.p c.step.new.self }) c.args.p
    c.index_mut-process.result.now c.step.new.self c.index_mut-process.ensures.value (in_range m c.args.self.now c.args.p c.self.view_is c.requires) refl
    c.self.invariant c.step.result c.step.ensures.ok c.step.ensures.err

pub returns-in-Running-clause-ok : goal.returns-in-Running-clause-ok
returns-in-Running-clause-ok c =
    let m = c.self.inside in
    step_ok m (record { shared = c.step.new.shared; processes = with_item m.processes c.args.p c.step.new.self }) c.args.p
    c.index_mut-process.result.now c.step.new.self c.index_mut-process.ensures.value (in_range m c.args.self.now c.args.p c.self.view_is c.requires) refl
    c.self.invariant c.in-Running.is c.args.self.now c.self.view_is c.step.result c.step.ensures.ok

pub returns-in-Running-clause-err : goal.returns-in-Running-clause-err
returns-in-Running-clause-err c =
    let m = c.self.inside in
    step_err m (record { shared = c.step.new.shared; processes = with_item m.processes c.args.p c.step.new.self }) c.args.p
    c.index_mut-process.result.now c.step.new.self c.index_mut-process.ensures.value (in_range m c.args.self.now c.args.p c.self.view_is c.requires) refl
    c.args.self.now c.self.view_is c.step.result c.step.ensures.err

pub returns-in-Running-clause-quiet : goal.returns-in-Running-clause-quiet
returns-in-Running-clause-quiet c = λ quiet.
    let m = c.self.inside in
    c.step.ensures.quiet (quiet_first m (record { shared = c.step.new.shared; processes = with_item m.processes c.args.p c.step.new.self }) c.args.p
    c.index_mut-process.result.now c.step.new.self c.index_mut-process.ensures.value (in_range m c.args.self.now c.args.p c.self.view_is c.requires) refl
    c.self.invariant c.in-Running.is c.args.self.now c.self.view_is quiet)

pub returns-in-Running-clause-processes : goal.returns-in-Running-clause-processes
returns-in-Running-clause-processes c =
    (large_after (length c.args.self.now.processes) c.args.p c.args.self.now _ c.step.result (returns-in-Running-clause-ok c) (returns-in-Running-clause-err c)).processes

pub returns-in-Running-clause-rows : goal.returns-in-Running-clause-rows
returns-in-Running-clause-rows c =
    (large_after (length c.args.self.now.processes) c.args.p c.args.self.now _ c.step.result (returns-in-Running-clause-ok c) (returns-in-Running-clause-err c)).rows

pub returns-in_default : goal.returns-in_default
returns-in_default c =
    let m = c.self.inside in
    let same = step_stopped m (record { shared = m.shared; processes = with_item m.processes c.args.p c.index_mut-process.result.now }) c.args.p
    c.index_mut-process.result.now c.index_mut-process.ensures.value (in_range m c.args.self.now c.args.p c.self.view_is c.requires) refl refl
    c.in_default.not-Running c.args.self.now c.self.view_is in
    let large = subst (IsAsLarge c.args.self.now) (sym same) (step_as_large (length c.args.self.now.processes) c.args.p c.args.self.now) in
    record { ok = same; err = tt; quiet = λ quiet. refl; processes = large.processes; rows = large.rows }
