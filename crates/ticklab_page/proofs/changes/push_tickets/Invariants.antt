use Rattle.std.proofs.Common.{◌≡◌, [], ◌++◌, codes}
use Rattle.std.specs.Prelude.{slice_index}
use Rattle.ticklab_page.specs.Writing.{around, for_each}
use Rattle.ticklab_page.proofs.changes.push_tickets.Given as goal

abbrev pub invariant-loop-process : goal.invariant-loop-process
invariant-loop-process l = l.page.items ≡ l.initial.page.items ++ for_each (λ i. around (codes " ") (slice_index l.tickets i) []) l.process
