use Rattle.std.proofs.Common.{◌≡◌, List, length, take}
use Rattle.code_machine.specs.Machine.{run_of}
use Rattle.ticklab_draw.specs.Marks.{with_instruction}
use Rattle.ticklab_trace.specs.declared.steps.InstructionStep.{InstructionStep}
use Rattle.ticklab_trace.specs.prover.SoFar.{Instructions}
use Rattle.ticklab_runs.specs.prover.Kept.{IsKept}
use Rattle.ticklab_runs.proofs.following.code_run.Given as goal

-- the first items of the schedule have stepped
abbrev pub invariant-loop-at : goal.invariant-loop-at
invariant-loop-at l = record {
  machine : l.machine.state ≡ run_of l.code.sizes l.code.instructions (take l.at l.schedule);
  code : l.machine.code ≡ l.code;
  processes : length l.machine.state.processes ≡ l.code.sizes.processes;
  steps : (steps : List InstructionStep) × Instructions l.code l.schedule l.at steps
      × IsKept with_instruction l.telling steps l.steps.items l.marking.marks.items;
}
