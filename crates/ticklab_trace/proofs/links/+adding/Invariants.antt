use Rattle.std.proofs.Common.{◌≡◌, ◌+◌, drop, length}
use Rattle.tick_kinds.specs.Resolved.{resolved_block}
use Rattle.ticklab_trace.specs.prover.Links.{Adding}
use Rattle.ticklab_trace.proofs.links.+adding.Given as goal

-- the statements before this one have their links
abbrev pub invariant-add_block-loop-statement : goal.invariant-add_block-loop-statement
invariant-add_block-loop-statement l =
    (l.left + l.statement-index ≡ length l.block)
    × Adding (resolved_block l.block) (resolved_block (drop l.statement-index l.block)) l.fn.after l.fn.links.items l.links.items
