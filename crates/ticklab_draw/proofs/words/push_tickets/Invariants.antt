use Rattle.std.proofs.Common.{◌≡◌, ◌++◌, drop, map}
use Rattle.std.specs.Fmt.{decimal}
use Rattle.base.specs.Lines.{spaced}
use Rattle.ticklab_draw.proofs.words.push_tickets.Given as goal

abbrev pub invariant-loop-ticket : goal.invariant-loop-ticket
invariant-loop-ticket l = l.out.items ++ spaced (map decimal (drop l.ticket-index l.told)) ≡ l.fn.out.items ++ spaced (map decimal l.told)
