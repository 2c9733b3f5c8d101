use Rattle.std.proofs.Common.{◌≡◌, [], ◌++◌, drop}
use Rattle.std.specs.List.{flat_map}
use Rattle.ticklab_page.specs.Writing.{around}
use Rattle.ticklab_page.proofs.changes.push_all_digits.Given as goal

abbrev pub invariant-loop-at : goal.invariant-loop-at
invariant-loop-at l = l.page.items ++ flat_map (λ digit. around [] digit []) (drop l.at l.label) ≡ l.fn.page.items ++ flat_map (λ digit. around [] digit []) l.label
