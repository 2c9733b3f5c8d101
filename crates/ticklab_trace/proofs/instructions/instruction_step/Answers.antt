use Rattle.std.proofs.Common.{ap, ◌∙◌, refl, length}
use Rattle.std.specs.Prelude.{slice_get, option_map}
use Rattle.ticklab_trace.specs.InstructionSteps.{lost_to}
use Rattle.ticklab_trace.specs.Shown.{shown}
use Rattle.ticklab_trace.proofs.Followed.{code_told}
use Rattle.ticklab_trace.proofs.instructions.instruction_step.Goals as goal

pub returns-clause-step : goal.returns-clause-step
returns-clause-step c =
    let s = c.args.machine.now.state in
    let after = c.make_step.new.self.state in
    record {
      process = refl;
      place = c.place-place.ensures;
      instruction = c.instruction_of-instruction.ensures ∙ c.in_ok-make_step.ensures.instruction;
      act = code_told c.args.machine.now.code.sizes.processes c.args.machine.now.code.instructions c.args.p s after c.act_after-act.result c.in_ok-make_step.ensures.ok
          (c.act_after-act.ensures ∙ λ i. option_map (λ e. e.act) (slice_get (c.events.ensures i) (length (c.events-told.ensures i))));
      lost = c.lost_to-lost.ensures ∙ ap (lost_to c.instruction_of-instruction.result c.act_after-act.result) c.word-word.ensures;
      labels = c.shown-labels.ensures ∙ ap (shown c.act_after-act.result) c.word-word.ensures;
    }
