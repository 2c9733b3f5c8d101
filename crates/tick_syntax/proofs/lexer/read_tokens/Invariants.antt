use Rattle.std.proofs.Common.{◌-◌, length}
use Rattle.tick_syntax.proofs.TokensSoFar.{ReadSoFar}
use Rattle.tick_syntax.proofs.lexer.read_tokens.Given as goal

abbrev pub invariant-tokens : goal.invariant-tokens
invariant-tokens l = ReadSoFar l.bytes l.tokens.items l.end

abbrev pub decreases-tokens : goal.decreases-tokens
decreases-tokens l = length l.bytes - l.end
