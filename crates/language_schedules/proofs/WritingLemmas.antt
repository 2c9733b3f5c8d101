-- What the writing of a schedule keeps from step to step.
use Rattle.std.proofs.Common.{ℕ, List, map}
use Rattle.language_schedules.specs.declared.schedule.Item.{Item}
use Rattle.language_schedules.specs.Written.{item_text, joined, run_onto, runs_of}

abbrev pub run : ℕ → ℕ → Item
run process steps = record { process = process; steps = steps }

-- the text of a run that goes on, and of the steps to come
abbrev pub text_from : Item → List ℕ → List ℕ
text_from item steps = joined (map item_text (run_onto item (runs_of steps)))
