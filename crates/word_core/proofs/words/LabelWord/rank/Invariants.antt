use Rattle.std.proofs.Common.{◌≡◌, ◌≤◌, take}
use Rattle.word_core.specs.Order.{labels_below}
use Rattle.word_core.proofs.words.LabelWord.rank.Given as goal

-- how many of those so far it is above
abbrev pub invariant-loop-other : goal.invariant-loop-other
invariant-loop-other l = (l.rank ≡ labels_below (take l.other l.self) l.label) × (l.rank ≤ l.other)
