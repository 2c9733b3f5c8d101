use Rattle.std.proofs.Common.{◌≡◌, ◌++◌}
use Rattle.word_core.specs.Stamps.{label_at}
use Rattle.ticklab_page.specs.Changes.{label_text}
use Rattle.ticklab_page.specs.Writing.{for_each}
use Rattle.ticklab_page.proofs.changes.push_all_labels.Given as goal

abbrev pub invariant-loop-process : goal.invariant-loop-process
invariant-loop-process l = l.page.items ≡ l.initial.page.items ++ for_each (λ i. label_text (label_at l.labels i)) l.process
