use Rattle.std.proofs.Common.{◌≡◌, ◌++◌, drop}
use Rattle.ticklab_draw.specs.labels.Figures.{digits_text}
use Rattle.ticklab_draw.proofs.labels.table.push_digits.Given as goal

abbrev pub invariant-loop-place : goal.invariant-loop-place
invariant-loop-place l =
    l.out.items ++ digits_text l.place (drop l.place l.label) ≡ l.fn.out.items ++ digits_text 0 l.label
