use Rattle.std.proofs.Common.{◌≡◌, ◌++◌}
use Rattle.ticklab_page.specs.Writing.{times}
use Rattle.ticklab_page.proofs.writing.push_times.Given as goal

abbrev pub invariant-times : goal.invariant-times
invariant-times l = l.page.items ≡ l.fn.page.items ++ times l.counter l.text
