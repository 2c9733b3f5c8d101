use Rattle.std.proofs.Common.{◌+◌, ◌*◌}
use Rattle.tick_syntax.proofs.parser.Parser.+expression.Given as goal

abbrev pub decreases-boxed : goal.decreases-boxed
decreases-boxed l = 4 * l.room + 2

abbrev pub decreases-pair : goal.decreases-pair
decreases-pair l = 4 * l.room + 3

abbrev pub decreases-brackets : goal.decreases-brackets
decreases-brackets l = 4 * l.room

abbrev pub decreases-expression : goal.decreases-expression
decreases-expression l = 4 * l.room + 1
