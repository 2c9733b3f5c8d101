-- What a run on threads let others see, as a text: a line for the outputs of each process, for each
-- register row, and for how each process came to its end.
use Rattle.std.specs.Prelude.{ℕ, List, ◌++◌, codes, map}
use Rattle.base.specs.declared.status.Status.TheVariants as S
use Rattle.base.specs.declared.run_outcome.RunEnd.{RunEnd}
use Rattle.base.specs.declared.run_outcome.RunEnd.TheVariants.{Ended, Trapped, TurnsSpent, OutputsFull}
use Rattle.base.specs.Observables.{RunObservables}
use Rattle.tick_play.specs.Lines.{register_lines, row_lines, status_lines, status_text}

-- one that has stopped is told as in a report
abbrev pub end_text : RunEnd → List ℕ
end_text Ended = status_text S.Ended
end_text (Trapped t) = status_text (S.Trapped t)
end_text TurnsSpent = codes "turns"
end_text OutputsFull = codes "outputs"

abbrev pub outcome_lines : RunObservables → List ℕ
outcome_lines o = row_lines (codes "outputs") 0 o.outputs ++ register_lines o.rows ++ status_lines 0 (map end_text o.ends)
