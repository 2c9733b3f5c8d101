use Rattle.std.proofs.Common.{◌≡◌, ◌∙◌, [], ◌∷◌, ◌++◌, ap, arith, length, refl}
use Rattle.std.proofs.lemmas.List.{length-replicate}
use Rattle.code_machine.specs.Machine.{start_process}
use Rattle.ticklab_draw.specs.Marks.{with_instruction}
use Rattle.ticklab_trace.proofs.Offered.{code_stepped, instructions_more, instructions_none}
use Rattle.ticklab_runs.proofs.Kept.{kept_more, kept_none}
use Rattle.ticklab_runs.proofs.following.code_run.Goals as goal

pub loop-at-init : goal.loop-at-init
loop-at-init c =
    let code = c.args.code.now in
    record {
      machine = c.in_ok-machine.ensures.start;
      code = c.in_ok-machine.ensures.code;
      processes = ap (λ s. length s.processes) c.in_ok-machine.ensures.start ∙ length-replicate code.sizes.processes (start_process code.sizes);
      steps = (
        [],
        instructions_none code c.args.schedule.now,
        kept_none with_instruction c.args.telling.now _ _ c.in_ok-steps.ensures.items c.new-marking.ensures,
      );
    }

pub loop-at-preserved : goal.loop-at-preserved
loop-at-preserved c =
    let code = c.args.code.now in
    let schedule = c.args.schedule.now in
    let i = c.loop-at.at in
    let inside = c.loop-at-test.true in
    let before = c.loop-at.invariant in
    let h = c.in_ok-step.ensures in
    let step = c.in_ok-step.step in
    let steps = before.steps.0 in
    let next = code_stepped code schedule i inside c.loop-at.machine c.instruction_step.new.machine step before.code before.machine h.ok h.step in
    record {
      machine = next.0;
      code = h.code ∙ before.code;
      processes = h.processes ∙ before.processes;
      steps = (
        steps ++ step ∷ [],
        instructions_more code schedule i steps (steps ++ step ∷ []) step before.steps.1 inside refl next.1,
        kept_more with_instruction steps _ _ _ _ step i before.steps.1.count c.args.telling.now before.steps.2 c.in_ok-keep_step.ensures c.in_ok-mark_instruction.ensures,
      );
    }

pub returns : goal.returns
returns c =
    let before = c.loop-at.invariant in
    let done : c.loop-at.at ≡ length c.args.schedule.now = omega arith in
    (before.steps.0, record { count = before.steps.1.count ∙ done; each = before.steps.1.each }, before.steps.2)
