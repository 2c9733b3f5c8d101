-- A level is left before the next is entered, so each step within a level has a rank of its own.
use Rattle.std.proofs.Common.{◌+◌, ◌*◌}
use Rattle.language_questions.proofs.reader.Reader.+property.Given as goal

abbrev pub decreases-inside : goal.decreases-inside
decreases-inside l = 8 * l.room

abbrev pub decreases-chain : goal.decreases-chain
decreases-chain l = 8 * l.room

abbrev pub decreases-process : goal.decreases-process
decreases-process l = 8 * l.room + 1

abbrev pub decreases-brackets : goal.decreases-brackets
decreases-brackets l = 8 * l.room + 1

abbrev pub decreases-asked : goal.decreases-asked
decreases-asked l = 8 * l.room + 2

abbrev pub decreases-older : goal.decreases-older
decreases-older l = 8 * l.room + 2

abbrev pub decreases-named : goal.decreases-named
decreases-named l = 8 * l.room + 3

abbrev pub decreases-operand : goal.decreases-operand
decreases-operand l = 8 * l.room + 4

abbrev pub decreases-link : goal.decreases-link
decreases-link l = 8 * l.room + 5

abbrev pub decreases-rest : goal.decreases-rest
decreases-rest l = 8 * l.room + 5

abbrev pub decreases-over : goal.decreases-over
decreases-over l = 8 * l.room + 5

abbrev pub decreases-property : goal.decreases-property
decreases-property l = 8 * l.room + 6
