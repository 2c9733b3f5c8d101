use Rattle.std.proofs.Common.{◌≡◌, ◌++◌, drop, string_bytes}
use Rattle.tick_syntax.specs.Grammar.{block_tokens}
use Rattle.tick_syntax.specs.Printed.{printed_tokens}
use Rattle.base.specs.Plain.{block_of}
use Rattle.tick_syntax.proofs.printer.+statement.Given as goal

abbrev pub invariant-push_block-loop-statement : goal.invariant-push_block-loop-statement
invariant-push_block-loop-statement l =
    string_bytes l.out ++ printed_tokens (block_tokens (block_of (drop l.statement-index l.block.items)))
    ≡ string_bytes l.fn.out ++ printed_tokens (block_tokens (block_of l.block.items))
