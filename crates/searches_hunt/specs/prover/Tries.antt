-- How far a run has come.
use Rattle.std.specs.Prelude.{◌≡◌, ◌<◌, ◌≤◌, ℕ, zero, suc, true, false, List}
use Rattle.base.specs.Plain.{WholeProgram}
use Rattle.language_properties.specs.Properties.{Formula}
use Rattle.tick_source.specs.Source.{SourceState, source}
use Rattle.searches_explore.specs.Lines.{is_fault}
use Rattle.searches_hunt.specs.declared.plan.Mode.{Mode}
use Rattle.searches_hunt.specs.declared.plan.Plan.{Plan}
use Rattle.searches_hunt.specs.declared.drawing.ScheduleDraw.{ScheduleDraw}
use Rattle.searches_hunt.specs.Draws.{next_drawing, drawn, start_drawing}

-- where the drawing stands after so many steps
abbrev pub drawing_after : Mode → ℕ → ℕ → ScheduleDraw → ScheduleDraw
drawing_after mode n zero d = d
drawing_after mode n (suc steps) d = drawing_after mode n steps (next_drawing mode n d)

-- the first steps of a run
abbrev pub first_steps : WholeProgram ℕ → Plan → ℕ → ℕ → SourceState
first_steps a plan run steps = source a (drawn plan.mode a.processes steps (start_drawing plan.seed run))

-- after so many steps of the run, and it has as many, a process has trapped or a line is broken
pub record FaultsWithin (a : WholeProgram ℕ) (lines : List Formula) (plan : Plan) (run steps : ℕ) : Type 0 where
  pub within : steps ≤ plan.steps
  pub fault : is_fault lines (first_steps a plan run steps) ≡ true

-- none has and none is after so many steps of the run, nor after fewer
abbrev pub IsFaultlessTo : WholeProgram ℕ → List Formula → Plan → ℕ → ℕ → Type 0
IsFaultlessTo a lines plan run steps = (k : ℕ) → k ≤ steps → is_fault lines (first_steps a plan run k) ≡ false

-- After so many steps of the run the machine and the drawing stand so, and so far there was no fault.
pub record IsAfter (a : WholeProgram ℕ) (lines : List Formula) (plan : Plan) (run steps : ℕ) (machine : SourceState) (drawing : ScheduleDraw) : Type 0 where
  pub made : machine ≡ first_steps a plan run steps
  pub drew : drawing ≡ drawing_after plan.mode a.processes steps (start_drawing plan.seed run)
  pub faultless : IsFaultlessTo a lines plan run steps
  pub process : drawing.process < a.processes
