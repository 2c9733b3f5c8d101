use Rattle.language_questions.proofs.LineLemmas.{HasLinesTo}
use Rattle.language_questions.proofs.lines.questions_of.Given as goal
use Rattle.language_questions.specs.Lines.{asked_of}

abbrev pub invariant-loop-place : goal.invariant-loop-place
invariant-loop-place l = HasLinesTo l.program l.bytes (asked_of l.found) l.start l.place
