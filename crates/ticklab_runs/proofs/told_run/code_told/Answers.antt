use Rattle.std.proofs.Common.{◌∙◌, List, None, ap, refl, subst}
use Rattle.code_core.specs.Instructions.{StepCode}
use Rattle.ticklab_draw.specs.Marks.{instruction_marks, with_instruction}
use Rattle.ticklab_trace.specs.InstructionSteps.{AreInstructionSteps}
use Rattle.ticklab_trace.specs.declared.steps.InstructionStep.{InstructionStep}
use Rattle.ticklab_files.proofs.Responding.{then_ok}
use Rattle.ticklab_runs.specs.Pages.{page_look}
use Rattle.ticklab_runs.specs.Steps.{CodeRun}
use Rattle.ticklab_runs.specs.Traces.{instructions_told}
use Rattle.ticklab_runs.specs.prover.Kept.{IsKept}
use Rattle.ticklab_runs.proofs.Alike.{same_code_page, same_picture}
use Rattle.ticklab_runs.proofs.told_run.code_told.Goals as goal

pub returns-in-Trace : goal.returns-in-Trace
returns-in-Trace c =
    let k = c.in_ok-run.ensures in
    let are = subst (λ (code : StepCode). AreInstructionSteps code c.args.schedule.now k.0) c.requires.code k.1 in
    let ran : CodeRun c.args.program.now c.args.schedule.now = record { has_code = c.requires.has_code; steps = k.0; are_steps = are } in
    let same = subst (λ t. IsKept with_instruction t k.0 c.in_ok-run.run'.steps.items c.in_ok-run.run'.marks.items) c.in-Trace.is k.2 in
    rw c.in-Trace.is
    (then_ok c.instructions_told.result
    (λ out told. (ran, told ∙ ap (λ (steps : List InstructionStep). instructions_told c.in-Trace.tracing c.args.program.now steps) (c.as_slice.ensures.value ∙ same)))
    c.instructions_told.ensures)

pub returns-in-Page : goal.returns-in-Page
returns-in-Page c =
    let a = c.args.program.now in
    let run = c.in_ok-run.run' in
    let k = c.in_ok-run.ensures in
    let are = subst (λ (code : StepCode). AreInstructionSteps code c.args.schedule.now k.0) c.requires.code k.1 in
    let ran : CodeRun c.args.program.now c.args.schedule.now = record { has_code = c.requires.has_code; steps = k.0; are_steps = are } in
    let both = subst (λ t. IsKept with_instruction t k.0 c.in_ok-run.run'.steps.items c.in_ok-run.run'.marks.items) c.in-Page.is k.2 in
    let title = c.title_of-title.ensures in
    let look = page_look c.in-Page.paging.is_shared in
    rw c.in-Page.is
    (then_ok c.code_page_of.result
    (λ out page. (
      ran,
      page ∙ same_code_page a _ _ title run.marks.items (instruction_marks k.0) both.1 c.in-Page.paging.is_shared c.args.code.now _ run.steps.items k.0 _ _ c.requires.code both.0
          (same_picture a _ _ title run.marks.items (instruction_marks k.0) both.1 look look None _ _ refl refl),
    )) c.code_page_of.ensures)

pub returns : goal.returns
returns c =
    let a = c.args.program.now in
    let k = c.in_ok-run.ensures in
    let are = subst (λ (code : StepCode). AreInstructionSteps code c.args.schedule.now k.0) c.requires.code k.1 in
    let ran : CodeRun c.args.program.now c.args.schedule.now = record { has_code = c.requires.has_code; steps = k.0; are_steps = are } in
    let marked = subst (λ t. IsKept with_instruction t k.0 c.in_ok-run.run'.steps.items c.in_ok-run.run'.marks.items) c.in-Picture.is k.2 in
    rw c.in-Picture.is
    (then_ok c.picture_of.result
    (λ out drawn. (
      ran,
      drawn ∙ same_picture a _ _ c.title_of-title-in-Picture.ensures c.as_slice-marks.result.now (instruction_marks k.0) (c.as_slice-marks.ensures.value ∙ marked) _ _ None _ _ c.look_of.ensures refl,
    )) c.picture_of.ensures)
