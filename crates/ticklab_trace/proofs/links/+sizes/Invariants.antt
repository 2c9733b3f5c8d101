use Rattle.std.proofs.Common.{◌≡◌, ◌+◌, ◌≤◌, min, drop}
use Rattle.tick_kinds.specs.Resolved.{resolved_block}
use Rattle.ticklab_trace.specs.Numbers.{size}
use Rattle.ticklab_trace.proofs.links.+sizes.Given as goal

abbrev pub invariant-size-loop-statement : goal.invariant-size-loop-statement
invariant-size-loop-statement l =
    (l.count ≤ 18446744073709551615)
    × (min (l.count + size (resolved_block (drop l.statement-index l.block))) 18446744073709551615
    ≡ min (size (resolved_block l.block)) 18446744073709551615)
