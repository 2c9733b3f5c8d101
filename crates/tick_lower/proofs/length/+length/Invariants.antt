use Rattle.std.proofs.Common.{◌≡◌, ◌+◌, ◌≤◌, min, drop}
use Rattle.tick_kinds.specs.Resolved.{resolved_block}
use Rattle.tick_lower.specs.Lowered.{block_length}
use Rattle.tick_lower.proofs.length.+length.Given as goal

abbrev pub invariant-block_length-loop-statement : goal.invariant-block_length-loop-statement
invariant-block_length-loop-statement l =
    (l.length ≤ 4294967295)
    × (min (l.length + block_length (resolved_block (drop l.statement-index l.statements))) 4294967295
    ≡ min (block_length (resolved_block l.statements)) 4294967295)
