-- Who is asked whether they end, by one line more.
use Rattle.std.specs.Prelude.{Option, Some, None}
use Rattle.language_questions.specs.declared.questions.Condition.{Condition}
use Rattle.language_questions.specs.declared.questions.Condition.TheVariants as C
use Rattle.language_questions.specs.declared.questions.EndsLine.{EndsLine}
use Rattle.language_questions.specs.declared.questions.EndsLines.{EndsLines}

abbrev pub no_ends : EndsLines
no_ends = record { fair = None; wait_free = None; alone = None }

abbrev pub unless_asked : {T : Type 0} → Option T → EndsLines → Option EndsLines
unless_asked None lines = Some lines
unless_asked (Some asked) lines = None

-- with this line, if there is none of its condition yet
abbrev pub with_condition : Condition → EndsLines → EndsLine → Option EndsLines
with_condition C.Fair lines line = unless_asked lines.fair (record lines { fair = Some line.asked })
with_condition C.WaitFree lines line = unless_asked lines.wait_free (record lines { wait_free = Some line.asked })
with_condition C.Alone lines line = unless_asked lines.alone (record lines { alone = Some line.asked })

abbrev pub with_line : EndsLines → EndsLine → Option EndsLines
with_line lines line = with_condition line.condition lines line
