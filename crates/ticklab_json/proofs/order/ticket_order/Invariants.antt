use Rattle.std.proofs.Common.{◌≡◌, map}
use Rattle.serde_json.specs.View.{view}
use Rattle.ticklab_trace.specs.TraceText.{ticket_rank}
use Rattle.ticklab_json.specs.Steps.{ranks_to}
use Rattle.ticklab_json.proofs.order.ticket_order.Given as goal

abbrev pub invariant-loop-i : goal.invariant-loop-i
invariant-loop-i l = map view l.ranks.items ≡ ranks_to (ticket_rank l.tickets) l.i
