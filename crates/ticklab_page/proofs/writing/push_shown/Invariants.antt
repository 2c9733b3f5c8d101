use Rattle.std.proofs.Common.{◌≡◌, ◌++◌, drop}
use Rattle.ticklab_page.specs.Shown.{shown}
use Rattle.ticklab_page.proofs.writing.push_shown.Given as goal

abbrev pub invariant-loop-byte : goal.invariant-loop-byte
invariant-loop-byte l = l.page.items ++ shown (drop l.byte-index l.text) ≡ l.fn.page.items ++ shown l.text
