use Rattle.std.proofs.Common.{◌≡◌, ◌<◌, ◌+◌, rules, true, vec_items, vec_capacity, length, arith, sym}
use Rattle.std.proofs.lemmas.Grind.{common_steps}
use Rattle.std.specs.Prelude.{slice_get}
use Rattle.code_machine.specs.Process.{gives_out}
use Rattle.tick_run.proofs.Working.{after_went, after_gave, room_for_one, worked}
use Rattle.tick_run.proofs.worker.work.Goals.{in-Went+else-has_stopped, in-Gave, else-loop-test, then-loop-test+in_default, then-loop-test+in-Some+else-is_past+in-Went+then-has_stopped}
use Rattle.tick_run.proofs.worker.work.Goals as goal

pub loop-preserved : goal.loop-preserved
loop-preserved g c =
    let made = c.make_one.ensures in
    let q = c.loop.proc.process in
    let few : gives_out q.status (slice_get c.args.code.now.instructions q.place) ≡ true → length (vec_items c.loop.outputs) < c.args.limits.outs = λ out. (
    let few = room_for_one q.status (slice_get c.args.code.now.instructions q.place) c.in-Some.instruction c.len.result c.args.limits.outs
    c.in-Some.ensures.running c.in-Some.ensures.here (sym c.if-is_past.ensures) out
    in let long = c.len.ensures in grind (arith, common_steps)
    )
    in
    elim c.match-make_one.branch [
      | in-Went+else-has_stopped w ↦ rw w.outputs-is (after_went c.args.table.now c.args.code.now c.args.job.process c.args.limits.turns c.args.limits.outs c.loop.counter c.loop.proc
          c.make_one.new.proc c.loop.pass c.make_one.new.pass (vec_items c.loop.outputs) (vec_capacity c.loop.outputs) c.loop.invariant made.me made.of made.here made.held w.in-Went.ensures.turn)
      | in-Gave w ↦ rw (w.outputs-is, w.push_reserved.ensures.items, w.push_reserved.ensures.capacity)
          (after_gave c.args.table.now c.args.code.now c.args.job.process c.args.limits.turns c.args.limits.outs c.loop.counter c.loop.proc
          c.make_one.new.proc c.loop.pass c.make_one.new.pass (vec_items c.loop.outputs) (vec_capacity c.loop.outputs) c.loop.invariant made.me made.of made.here made.held _ w.in-Gave.ensures.turn few)
    ]

pub returns : goal.returns
returns g c =
    let t = c.args.table.now in let code = c.args.code.now in let p = c.args.job.process in
    let turns = c.args.limits.turns in let outs = c.args.limits.outs in
    elim c.loop-test.branch [
      | else-loop-test w ↦
          rw w.pass-is (worked t code p turns outs c.loop.counter c.loop.proc c.loop.pass (vec_items c.loop.outputs) (vec_capacity c.loop.outputs) c.end_of-end.result
          c.loop.invariant (omega (arith, c.loop.auto.counter-end)) (λ running. omega (arith, w.loop-test.false, c.loop.auto.counter-end)) (search rules))
      | then-loop-test+in_default w ↦
          rw w.pass-is (worked t code p turns outs c.loop.counter c.loop.proc c.loop.pass (vec_items c.loop.outputs) (vec_capacity c.loop.outputs) c.end_of-end.result
          c.loop.invariant (omega (arith, c.loop.auto.counter-end)) (λ running. absurd (w.in_default.ensures.stopped running)) (search rules))
      | then-loop-test+in-Some+else-is_past+in-Went+then-has_stopped w ↦
          let made = w.make_one.ensures in
          rw w.pass-is (worked t code p turns outs (c.loop.counter + 1) w.make_one.new.proc w.make_one.new.pass (vec_items c.loop.outputs) (vec_capacity c.loop.outputs) c.end_of-end.result
          (after_went t code p turns outs c.loop.counter c.loop.proc w.make_one.new.proc c.loop.pass w.make_one.new.pass (vec_items c.loop.outputs) (vec_capacity c.loop.outputs)
          c.loop.invariant made.me made.of made.here made.held w.in-Went.ensures.turn)
          (omega (arith, w.loop-test.true)) (search rules) (search rules))
    ]
