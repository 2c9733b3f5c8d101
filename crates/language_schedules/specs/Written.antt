-- Schedules as they are written.
use Rattle.std.specs.Prelude.{ℕ, ◌+◌, ◌==◌, List, [], ◌∷◌, ◌++◌, codes, map, if◌then◌else◌}
use Rattle.std.specs.Fmt.{decimal}
use Rattle.base.specs.Lines.{spaced}
use Rattle.language_schedules.specs.declared.schedule.Item.{Item}

-- a run before others; with the first of them it is one run where both are of one process
abbrev pub run_onto : Item → List Item → List Item
run_onto run [] = run ∷ []
run_onto run (next ∷ runs) =
    if run.process == next.process
    then record { process = run.process; steps = run.steps + next.steps } ∷ runs
    else run ∷ next ∷ runs

-- the longest runs of steps of one process, in order
abbrev pub runs_of : List ℕ → List Item
runs_of [] = []
runs_of (p ∷ steps) = run_onto (record { process = p; steps = 1 }) (runs_of steps)

abbrev pub item_text : Item → List ℕ
item_text run =
    if run.steps == 1 then decimal run.process
    else decimal run.process ++ codes "*" ++ decimal run.steps

-- the texts, with a space between each two
abbrev pub joined : List (List ℕ) → List ℕ
joined [] = []
joined (text ∷ texts) = text ++ spaced texts

abbrev pub schedule_text : List ℕ → List ℕ
schedule_text steps = joined (map item_text (runs_of steps))
