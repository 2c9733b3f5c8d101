-- A run of a small code, worked by hand, and what is no run of it.
use Rattle.std.proofs.Common.{◌≡◌, ℕ, zero, suc, List, [], ◌∷◌, Some, refl, subst, arith}
use Rattle.std.specs.Prelude.{slice_get}
use Rattle.base.specs.declared.run_outcome.RunEnd.{RunEnd}
use Rattle.base.specs.declared.run_outcome.RunEnd.TheVariants.{Ended}
use Rattle.base.specs.Observables.{RunObservables}
use Rattle.code_core.specs.declared.instr.Instr.TheVariants as I
use Rattle.code_core.specs.Instructions.{sizes, StepCode}
use Rattle.code_machine.specs.Machine.{CodeProcess, CodeState}
use Rattle.base.specs.declared.status.Status.TheVariants.{Running}
use Rattle.tick_merge.specs.Ran.{Runs}
use Rattle.tick_merge.specs.Runs.{EndedSo, IsWholeRun}

-- one process that gives out 7, and ends
abbrev pub gives_seven : StepCode
gives_seven = record { sizes = sizes 1 0 0 0; instructions = I.Push 7 ∷ I.Out ∷ I.Halt ∷ [] }

abbrev pub seven_given : RunObservables
seven_given = record { outputs = (7 ∷ []) ∷ []; ends = Ended ∷ []; rows = [] }

abbrev three_turns : List ℕ
three_turns = 0 ∷ 0 ∷ 0 ∷ []

ended_so : EndedSo gives_seven three_turns 0 5 10000 (7 ∷ []) Ended
ended_so = record {
  process = _;
  there = refl;
  turns_kept = omega arith;
  gave = refl;
  outputs_kept = omega arith;
  ends_as = refl;
}

each : (p : ℕ) (given : List ℕ) (end : RunEnd) → slice_get seven_given.outputs p ≡ Some given → slice_get seven_given.ends p ≡ Some end
    → EndedSo gives_seven three_turns p 5 10000 given end
each zero given end gave ended = by (cc) (cc)
  where
    by : (7 ∷ []) ≡ given → Ended ≡ end → EndedSo gives_seven three_turns 0 5 10000 given end
    by gave ended = subst (λ e. EndedSo gives_seven three_turns 0 5 10000 given e) ended
        (subst (λ g. EndedSo gives_seven three_turns 0 5 10000 g Ended) gave ended_so)
each (suc p) given end gave ended = absurd (cc)

goes_on : {p : ℕ} {s : CodeState} {q : CodeProcess} → slice_get s.processes p ≡ Some q → q.status ≡ Running → Runs p s
goes_on there running = record { process = _; there = there; running = running }

pub seven_run : IsWholeRun gives_seven 5 10000 seven_given
seven_run = record {
  schedule = three_turns;
  run = (goes_on refl refl, (goes_on refl refl, (goes_on refl refl, tt)));
  all_outputs = refl;
  all_ends = refl;
  each = each;
  registers = refl;
}

-- what has no end for the process is no run
no_end : IsWholeRun gives_seven 5 10000 (record { outputs = (7 ∷ []) ∷ []; ends = []; rows = [] }) → ⊥
no_end run = absurd (omega (arith, run.all_ends))
