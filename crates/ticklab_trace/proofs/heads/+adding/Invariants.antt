use Rattle.std.proofs.Common.{◌≡◌, ◌++◌, drop, length}
use Rattle.tick_syntax.specs.Grammar.{block_tokens}
use Rattle.base.specs.View.{block_of}
use Rattle.ticklab_trace.specs.Places.{heads}
use Rattle.ticklab_trace.proofs.heads.+adding.Given as goal

-- the statements before this one have their heads, and their tokens are gone
abbrev pub invariant-add_block-loop-statement : goal.invariant-add_block-loop-statement
invariant-add_block-loop-statement l =
    (l.spans.items ++ heads l.rest (block_of (drop l.statement-index l.block)) ≡ l.fn.spans.items ++ heads l.tokens (block_of l.block))
    × (drop (length (block_tokens (block_of (drop l.statement-index l.block)))) l.rest ≡ drop (length (block_tokens (block_of l.block))) l.tokens)
