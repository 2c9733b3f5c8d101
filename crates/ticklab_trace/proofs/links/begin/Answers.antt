use Rattle.std.proofs.Common.{sym}
use Rattle.ticklab_trace.proofs.Linked.{begins_first, more_of}
use Rattle.ticklab_trace.proofs.links.begin.Goals as goal

pub returns-else-is_empty : goal.returns-else-is_empty
returns-else-is_empty c = begins_first c.args.block.now c.args.first c.args.after (more_of c.args.block.now (sym c.if-is_empty.ensures))
