use Rattle.std.proofs.Common.{◌≡◌, drop}
use Rattle.tick_kinds.proofs.Steps.{checked_after}
use Rattle.tick_kinds.proofs.names.Names.+statement.Given as goal
use Rattle.tick_kinds.specs.prover.Checked.{checked_block}
use Rattle.tick_kinds.specs.Resolved.{resolved_block}
use Rattle.tick_kinds.specs.prover.Table.{slot_at}
use Rattle.base.specs.Plain.{block_of}

abbrev pub invariant-block-loop-statement : goal.invariant-block-loop-statement
invariant-block-loop-statement l =
    checked_block (slot_at l.self.slots) (block_of l.statements)
    ≡ checked_after (slot_at l.self.slots) (resolved_block l.resolved.items) (block_of (drop l.statement-index l.statements))
