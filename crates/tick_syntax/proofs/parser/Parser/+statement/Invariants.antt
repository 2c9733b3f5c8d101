use Rattle.std.proofs.Common.{◌≡◌, ◌+◌, ◌*◌, drop, length}
use Rattle.tick_syntax.specs.prover.Reading.{statements_at}
use Rattle.base.specs.Plain.{block_of}
use Rattle.tick_syntax.proofs.Loops.{after_block}
use Rattle.tick_syntax.proofs.parser.Parser.+statement.Given as goal

abbrev pub decreases-branch : goal.decreases-branch
decreases-branch l = 5 * l.room + 1

abbrev pub decreases-repeat : goal.decreases-repeat
decreases-repeat l = 5 * l.room + 1

abbrev pub decreases-statement : goal.decreases-statement
decreases-statement l = 5 * l.room + 3

abbrev pub decreases-statement_from : goal.decreases-statement_from
decreases-statement_from l = 5 * l.room + 2

abbrev pub decreases-statements : goal.decreases-statements
decreases-statements l = 5 * l.room + 4

abbrev pub decreases-block : goal.decreases-block
decreases-block l = 5 * l.room

abbrev pub invariant-statements-loop-statements : goal.invariant-statements-loop-statements
invariant-statements-loop-statements l =
    after_block (block_of l.statements.items) (statements_at l.self.end l.room l.ending (drop l.at l.self.tokens.now))
    ≡ statements_at l.self.end l.room l.ending (drop l.fn.start l.self.tokens.now)

abbrev pub decreases-statements-loop-statements : goal.decreases-statements-loop-statements
decreases-statements-loop-statements l = length (drop l.at l.self.tokens.now)
