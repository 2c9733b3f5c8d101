use Rattle.std.proofs.Common.{◌≡◌, ◌≤◌, ◌+◌, ◌++◌, drop, string_bytes}
use Rattle.language_schedules.proofs.WritingLemmas.{run, text_from}
use Rattle.language_schedules.proofs.writing.push_runs.Given as goal

-- the open run and the steps to come complete the text
abbrev pub invariant-loop-process : goal.invariant-loop-process
invariant-loop-process l =
    (l.run.steps ≤ l.process-index + 1)
    × (string_bytes l.text ++ text_from l.run (drop l.process-index l.rest) ≡ string_bytes l.fn.text ++ text_from (run l.first 1) l.rest)
