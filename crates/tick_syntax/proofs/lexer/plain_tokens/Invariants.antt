use Rattle.std.proofs.Common.{◌≡◌, map, take}
use Rattle.tick_syntax.specs.prover.ValuedTokens.{plain}
use Rattle.tick_syntax.proofs.lexer.plain_tokens.Given as goal

abbrev pub invariant-loop-token : goal.invariant-loop-token
invariant-loop-token l = l.tokens.items ≡ map plain (take l.token-index l.valued)
