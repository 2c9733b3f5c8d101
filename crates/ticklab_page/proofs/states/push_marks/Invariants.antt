use Rattle.std.proofs.Common.{◌≡◌, ◌++◌, string_bytes}
use Rattle.ticklab_page.specs.States.{more_marks}
use Rattle.ticklab_page.proofs.states.push_marks.Given as goal

abbrev pub invariant-marks : goal.invariant-marks
invariant-marks l = string_bytes l.cell ≡ string_bytes l.fn.cell ++ more_marks l.is_code l.counter
