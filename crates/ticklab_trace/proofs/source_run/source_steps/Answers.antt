use Rattle.std.proofs.Common.{◌∙◌}
use Rattle.tick_kinds.specs.Resolution.{resolved}
use Rattle.ticklab_trace.proofs.Offered.{stepped, statements_more, statements_none}
use Rattle.ticklab_trace.proofs.source_run.source_steps.Goals as goal

pub loop-p-init : goal.loop-p-init
loop-p-init c = record {
  body = c.in_ok-run.ensures.body;
  state = c.in_ok-run.ensures.start;
  processes = c.in_ok-run.ensures.processes;
  steps = statements_none (resolved c.args.program.now) c.args.schedule.now c.in_ok-steps.steps.items c.in_ok-steps.ensures.items;
}

pub loop-p-preserved : goal.loop-p-preserved
loop-p-preserved c =
    let a = resolved c.args.program.now in
    let schedule = c.args.schedule.now in
    let i = c.loop-p.p-index in
    let inside = c.loop-p-test.true in
    let before = c.loop-p.invariant in
    let h = c.in_ok-step.ensures in
    let next = stepped a schedule i inside c.loop-p.run c.step.new.self c.in_ok-step.step before.body before.state before.processes h.ok h.step in
    record {
      body = h.body ∙ before.body;
      state = next.0;
      processes = h.processes ∙ before.processes;
      steps = statements_more a schedule i c.loop-p.steps.items _ c.in_ok-step.step before.steps inside c.in_ok-push.ensures.items next.1;
    }
